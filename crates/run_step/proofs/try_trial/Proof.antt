-- `run_step::try_trial` meets its contract: the search is that of the line through the piece's present corner. Assumes nothing.
use Rattle.list_laws.proofs.Kit.{◌∙◌, ap, arith, rules}
use Rattle.model.specs.Lent.{Lent, lent_by, job_of}
use Rattle.run_trials.specs.Trials.{trial_as}
use Rattle.run_step.specs.Steps.{tried_answer}
use Rattle.run_step.proofs.Readies.{laid_length, laid_of, search_same, entries_same, after_laid}
use Rattle.run_step.proofs.try_trial.Statement.{statement}
use Rattle.run_step.proofs.try_trial.Tie as tie

-- the lent job
abbrev lent : tie.Start → Lent
lent e = lent_by e.args.run.size e.args.table.now e.args.pixels.now

line_of-line-requires : tie.Need-line_of-line-requires
line_of-line-requires c κs =
    let e : tie.Start = search in
    let whole = laid_length (lent e) e.args.layout.now e.args.penalties.now e.requires.1.1.0 in
    let below = e.requires.1.1.1.0.below in
    omega arith

try_line-requires : tie.Need-try_line-requires
try_line-requires c κs =
    let e : tie.Start = search in (
      e.requires.0,
      (
        e.requires.1.0,
        (
          laid_of (lent e) e.args.layout.now e.args.penalties.now e.requires.0.well e.requires.1.1.0,
          (e.requires.1.1.1.0.below, e.requires.1.1.0.table),
        ),
      ),
    )

returns : tie.Need-returns
unfolding job_of
returns c =
    let x : tie.After-try_line = search in
    let y : tie.After-line_of-line = search in
    let e : tie.Start = search in
    let j = job_of (lent e) in
    let ws = e.args.weights.now in
    let es = e.args.layout.now in
    let k = trial_as e.args.trial in
    let t = x.try_line in
    let f = y.line_of-line in
    let sum = e.requires.1.1.1.1 in
    let wrote = entries_same j ws es k f.result e.args.present f.ensures sum _ t.ensures.1.0 in (
      t.ensures.0 ∙ ap tried_answer (search_same j ws es k f.result e.args.present f.ensures sum),
      (
        wrote,
        (
          after_laid (lent e) ws es e.args.penalties.now k e.requires.1.1.1.0 e.requires.1.1.0 _ _ wrote t.ensures.1.1.0,
          t.ensures.1.1.1,
        ),
      ),
    )

pub try_trial_spec : {M : Type 1} → statement M
try_trial_spec =
    tie.close (tie.spec
    line_of-line-requires try_line-requires (search rules) (search rules) (search rules) (search rules) returns)
