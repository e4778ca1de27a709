-- `run_step::step` meets its contract: a piece whose pair sum is 0 is quiet without a search, else the search decides. Assumes nothing.
use Rattle.list_laws.proofs.Kit.{◌∙◌, ◌≡◌, ap, refl, subst, sym, Option, none, ◌+◌, ◌-◌, ◌<◌, ◌^◌, arith, length, rules}
use Rattle.model.specs.Layout.{Layout, piece_sum, weighted_sum}
use Rattle.model.specs.Lent.{Lent, lent_by, job_of}
use Rattle.model.specs.Buffer.{layout_of}
use Rattle.model.specs.Search.{Best}
use Rattle.model.specs.Descent as model
use Rattle.model.specs.Descent.{trial_line, attempt, moved}
use Rattle.job_laws.proofs.Checked.{facts}
use Rattle.descent_laws.specs.Trials.{Proper}
use Rattle.descent_laws.proofs.Sums.{piece_at_most}
use Rattle.descent_laws.proofs.Descent.{zero_quiet}
use Rattle.search_laws.specs.Loop.{trial_search}
use Rattle.search_laws.proofs.Loop.{trial_moved, trial_moved_lem, trial_quiet, trial_sum, trial_place}
use Rattle.run_trials.specs.Trials.{trial_as}
use Rattle.run_step.specs.Steps.{entries_after, standing_as}
use Rattle.run_step.specs.declared.DescentState.{DescentState}
use Rattle.run_step.proofs.Moves.{MovedTo, tried_quiet, tried_moved}
use Rattle.run_step.proofs.Stands.{present_small, total_small, quiet_passed, moved_passed, moved_layout}
use Rattle.run_step.proofs.step.Statement.{statement}
use Rattle.run_step.proofs.step.Tie as tie

-- the lent job and the layout at hand
abbrev lent : tie.Start → Lent
lent e = lent_by e.args.run.size e.args.table.now e.args.pixels.now

abbrev layoutAt : tie.Start → Layout
layoutAt e = layout_of e.args.layout.now

-- the trial that is read, and the entry from there
abbrev readTrial : tie.After-trial_at-trial → model.Trial
readTrial c = trial_as c.trial_at-trial.result

abbrev start : tie.After-trial_at-trial → tie.Start
start c = search

-- it is of a piece of the job in a turn allowed to it
proper : (c : tie.After-trial_at-trial) → Proper (job_of (lent (start c))) 0 (start c).args.run.size.count (readTrial c)
proper c =
    let e = start c in
    subst (λ (k : model.Trial). Proper (job_of (lent e)) 0 e.args.run.size.count k) (sym c.trial_at-trial.ensures) e.requires.1.1.1.0

trial_at-trial-requires : tie.Need-trial_at-trial-requires
trial_at-trial-requires c κs = let at-start : tie.Start = search in at-start.requires.1.1.1.1.1.1.1.1

next_place-next-requires : tie.Need-next_place-next-requires
next_place-next-requires c κs = let at-start : tie.Start = search in at-start.requires.1.1.1.1.1.1.1.1

row_sum-present-requires : tie.Need-row_sum-present-requires
unfolding job_of
row_sum-present-requires c κs =
    let at-start : tie.Start = search in
    let at-trial-at : tie.After-trial_at-trial = search in
    let t = at-start.requires.1.1.0.table in (
      record { few = (facts (lent at-start) at-start.requires.0.well).few_pieces; size = t.size; one_per_pair = at-start.requires.1.0.one_per_pair },
      (proper at-trial-at).below,
    )

-- the entry and the trial, from where the present pair sum is known
abbrev entry : tie.After-row_sum-present → tie.Start
entry c = search

abbrev reading : tie.After-row_sum-present → tie.After-trial_at-trial
reading c = search

abbrev trial_at : tie.After-row_sum-present → model.Trial
trial_at c = readTrial (reading c)

-- what its search comes to
abbrev sought : tie.After-row_sum-present → Option Best
sought c = trial_search (job_of (lent (entry c))) (entry c).args.weights.now (layoutAt (entry c)) (trial_at c)

-- the present pair sum
present : (c : tie.After-row_sum-present)
    → c.row_sum-present.result ≡ piece_sum (job_of (lent (entry c))) (entry c).args.weights.now (layoutAt (entry c)) (trial_at c).piece
unfolding job_of
present c = let e = entry c in c.row_sum-present.ensures (job_of (lent e)) (layoutAt e) refl e.requires.1.1.0.table

-- the place that comes next, from where it is known
abbrev placed : tie.After-row_sum-present → tie.After-next_place-next
placed c = search

-- one more quiet trial is still a number: there are as many trials at least
counted : (e : tie.Start) → e.args.at.quiet + 1 < 2 ^ 64
counted e =
    let few = e.requires.1.1.1.1.1.0 in
    let fits : length e.args.trials.now < 2 ^ 64 = e.well_formed.1.1.1.1.1.0.0 in
    omega arith

after_quiet-requires : tie.Need-after_quiet-requires
after_quiet-requires c κs =
    let at-start : tie.Start = search in
    (counted at-start, at-start.requires.1.1.1.1.1.1.0)

returns-then-still : tie.Need-returns-then-still
returns-then-still c =
    let b : tie.After-row_sum-present = search in
    let e = entry b in
    let j = job_of (lent e) in
    let r = c.after_quiet in
    let still = zero_quiet j e.args.weights.now (layoutAt e) (trial_at b) (sym (present b) ∙ c.if-still.true) in (
      quiet_passed e.args.trials.now (layoutAt e) e.args.at _ (placed b).next_place-next.ensures j e.args.weights.now (trial_at b)
          (reading b).trial_at-trial.ensures r.result r.ensures still,
      (ap (λ (s : DescentState). s.sum) r.ensures ∙ e.requires.1.1.1.1.0, (e.requires.1.1.0, e.requires.0)),
    )

overflow_cast-present : tie.Need-overflow_cast-present
overflow_cast-present c =
    let b : tie.After-row_sum-present = search in
    let e = entry b in
    let is = present b in
    let small =
    present_small (lent e) e.requires.0.well e.args.weights.now e.requires.1.0 (layoutAt e) (trial_at b).piece (proper (reading b)).below in
    omega arith

try_trial-requires : tie.Need-try_trial-requires
try_trial-requires c κs =
    let at-row-sum : tie.After-row_sum-present = search in
    let e = entry at-row-sum in
    (e.requires.0, (e.requires.1.0, (e.requires.1.1.0, (proper (reading at-row-sum), present at-row-sum))))

-- the present pair sum, from where the trial was taken
abbrev summed : tie.After-try_trial → tie.After-row_sum-present
summed c = search

-- what the layout buffer holds after the trial
abbrev left : tie.After-try_trial → Layout
left c = layout_of c.try_trial.new.layout

-- and what it is by the search
after : (c : tie.After-try_trial) (o : Option Best) → sought (summed c) ≡ o
    → c.try_trial.new.layout
    ≡ entries_after (entry (summed c)).args.layout.now (trial_at (summed c)).piece (trial_at (summed c)).turn
    (trial_line (layoutAt (entry (summed c))) (trial_at (summed c))) o
after c o found =
    let e = entry (summed c) in
    let k = trial_at (summed c) in
    c.try_trial.ensures.1.0
    ∙ ap (entries_after e.args.layout.now k.piece k.turn (trial_line (layoutAt e) k)) found

after_quiet-requires-in_default : tie.Need-after_quiet-requires-in_default
after_quiet-requires-in_default c κs =
    let at-try-trial : tie.After-try_trial = search in
    let e = entry (summed at-try-trial) in
    (counted e, e.requires.1.1.1.1.1.1.0)

-- ── the buffers are as long as before ──

shape_of-layout-in_default : tie.Need-shape_of-layout-in_default
shape_of-layout-in_default c = let at-try-trial : tie.After-try_trial = search in at-try-trial.try_trial.auto.layout

shape_of-penalties-in_default : tie.Need-shape_of-penalties-in_default
shape_of-penalties-in_default c = let at-try-trial : tie.After-try_trial = search in at-try-trial.try_trial.auto.penalties

shape_of-lines-in_default : tie.Need-shape_of-lines-in_default
shape_of-lines-in_default c = let at-try-trial : tie.After-try_trial = search in at-try-trial.try_trial.auto.lines

shape_of-maps-in_default : tie.Need-shape_of-maps-in_default
shape_of-maps-in_default c = let at-try-trial : tie.After-try_trial = search in at-try-trial.try_trial.auto.maps

shape_of-layout : tie.Need-shape_of-layout
shape_of-layout c = let at-try-trial : tie.After-try_trial = search in at-try-trial.try_trial.auto.layout

shape_of-penalties : tie.Need-shape_of-penalties
shape_of-penalties c = let at-try-trial : tie.After-try_trial = search in at-try-trial.try_trial.auto.penalties

shape_of-lines : tie.Need-shape_of-lines
shape_of-lines c = let at-try-trial : tie.After-try_trial = search in at-try-trial.try_trial.auto.lines

shape_of-maps : tie.Need-shape_of-maps
shape_of-maps c = let at-try-trial : tie.After-try_trial = search in at-try-trial.try_trial.auto.maps

-- ── what a trial comes to ──

returns-in_default : tie.Need-returns-in_default
returns-in_default c =
    let at-try-trial : tie.After-try_trial = search in
    let b = summed at-try-trial in
    let e = entry b in
    let j = job_of (lent e) in
    let ws = e.args.weights.now in
    let r = c.after_quiet-in_default in
    let nothing : sought b ≡ none = tried_quiet (sought b) (sym c.in_default.is ∙ at-try-trial.try_trial.ensures.0) in
    let same : left at-try-trial ≡ layoutAt e = ap layout_of (after at-try-trial none nothing) in
    let passed = quiet_passed e.args.trials.now (layoutAt e) e.args.at _ (placed b).next_place-next.ensures j ws (trial_at b)
    (reading b).trial_at-trial.ensures r.result r.ensures (trial_quiet j ws (layoutAt e) (trial_at b) nothing) in (
      ap (λ (w : Layout). standing_as w r.result) same ∙ passed,
      (
        ap (λ (s : DescentState). s.sum) r.ensures ∙ e.requires.1.1.1.1.0 ∙ sym (ap (weighted_sum j ws) same),
        (at-try-trial.try_trial.ensures.1.1.0, at-try-trial.try_trial.ensures.1.1.1),
      ),
    )

-- the place that was found
place : (c : tie.In-Some) →
    let at-try-trial : tie.After-try_trial = search in
    MovedTo (sought (summed (at-try-trial))) c.in-Some.found
place c =
    let at-try-trial : tie.After-try_trial = search in
    tried_moved _ _ (sym c.in-Some.is ∙ at-try-trial.try_trial.ensures.0)

overflow_sub-sum : tie.Need-overflow_sub-sum
overflow_sub-sum c =
    let at-row-sum : tie.After-row_sum-present = search in
    let e = entry at-row-sum in
    let is = present at-row-sum in
    let most = piece_at_most (job_of (lent e)) e.args.weights.now (layoutAt e) (trial_at at-row-sum).piece in
    let sum = e.requires.1.1.1.1.0 in
    omega arith

overflow_add-sum : tie.Need-overflow_add-sum
overflow_add-sum c =
    let at-row-sum : tie.After-row_sum-present = search in
    let e = entry at-row-sum in
    let j = job_of (lent e) in
    let told : tie.In-Some = search in
    let m = place told in
    let is = present at-row-sum in
    let most = piece_at_most j e.args.weights.now (layoutAt e) (trial_at at-row-sum).piece in
    let small = total_small (lent e) e.requires.0.well e.args.weights.now e.requires.1.0 (layoutAt e) in
    let less = (trial_place j e.args.weights.now (layoutAt e) (trial_at at-row-sum) m.best m.found).1 in
    let sum = e.requires.1.1.1.1.0 in
    let least = m.sum in
    omega arith

after_move-requires : tie.Need-after_move-requires
after_move-requires c κs =
    let at-try-trial : tie.After-try_trial = search in
    let n = (entry (summed at-try-trial)).requires.1.1.1.1.1 in (n.1.0, n.1.1.0)

returns : tie.Need-returns
returns c =
    let at-try-trial : tie.After-try_trial = search in
    let b = summed at-try-trial in
    let e = entry b in
    let j = job_of (lent e) in
    let ws = e.args.weights.now in
    let told : tie.In-Some = search in
    let m = place told in
    let r = c.after_move in
    let there : left at-try-trial ≡ trial_moved (layoutAt e) (trial_at b) m.best.at =
    moved_layout e.args.layout.now _ (trial_at b) m.best (after at-try-trial _ m.found) in
    let took : attempt j ws (layoutAt e) (trial_at b) ≡ moved (left at-try-trial) =
    trial_moved_lem j ws (layoutAt e) (trial_at b) m.best m.found ∙ ap moved (sym there) in
    let lowered : weighted_sum j ws (left at-try-trial) ≡ weighted_sum j ws (layoutAt e) - piece_sum j ws (layoutAt e) (trial_at b).piece + m.best.sum =
    ap (weighted_sum j ws) there ∙ trial_sum j ws (layoutAt e) (trial_at b) m.best m.found in
    let now : r.result.sum ≡ e.args.at.sum - b.row_sum-present.result + c.in-Some.found = ap (λ (s : DescentState). s.sum) r.ensures in
    let is = present b in
    let sum = e.requires.1.1.1.1.0 in
    let least = m.sum in (
      moved_passed e.args.trials.now (layoutAt e) e.args.at _ (placed b).next_place-next.ensures j ws (trial_at b) (reading b).trial_at-trial.ensures
          (left at-try-trial) r.result _ r.ensures took,
      (omega arith, (at-try-trial.try_trial.ensures.1.1.0, at-try-trial.try_trial.ensures.1.1.1)),
    )

pub step_spec : {M : Type 1} → statement M
step_spec =
    tie.close (tie.spec
    trial_at-trial-requires next_place-next-requires row_sum-present-requires after_quiet-requires (search rules) returns-then-still
    overflow_cast-present try_trial-requires (search rules) (search rules) after_quiet-requires-in_default shape_of-layout-in_default
    shape_of-penalties-in_default shape_of-lines-in_default shape_of-maps-in_default returns-in_default overflow_sub-sum (search rules)
    overflow_add-sum after_move-requires shape_of-layout shape_of-penalties shape_of-lines shape_of-maps returns)
