-- `run_trials::add_turn` meets its contract, by whether the turn is allowed. Assumes nothing.
use Rattle.list_laws.proofs.Kit.{◌∙◌, ◌≡◌, ap, sym, List, ℕ, arith, length-set, rules}
use Rattle.model.specs.Layout.{allowed}
use Rattle.model.specs.Lent.{lent_by, job_of}
use Rattle.model.specs.declared.JobSize.{JobSize}
use Rattle.run_trials.specs.Trials.{turn_at, direction_at}
use Rattle.run_trials.proofs.Listing.{turn_added, turn_passed}
use Rattle.run_trials.proofs.add_turn.Statement.{statement}
use Rattle.run_trials.proofs.add_turn.Tie as tie

-- the entry, from where the turn is asked for
abbrev entry : tie.After-allowed → tie.Start
entry c = search

-- the test asks for the turn at the place
asked : (c : tie.After-allowed) (size : JobSize) (pixels : List ℕ)
    → c.allowed.result ≡ allowed (job_of (lent_by size (entry c).args.table.now pixels)) (entry c).args.i (turn_at (entry c).args.turn)
asked c size pixels =
    let at-turn-at : tie.After-turn_at = search in
    c.allowed.ensures size pixels
    ∙ ap (allowed (job_of (lent_by size (entry c).args.table.now pixels)) (entry c).args.i) at-turn-at.turn_at.ensures

bounds-store-at-then-allowed : tie.Need-bounds-store-at-then-allowed
bounds-store-at-then-allowed c =
    let at-start : tie.Start = search in
    let room = at-start.requires.1 in
    rw length-set (omega arith)

returns-then-allowed : tie.Need-returns-then-allowed
unfolding direction_at
returns-then-allowed c =
    let at-allowed : tie.After-allowed = search in
    let at-then1 : tie.Then-allowed = search in
    let at-code-of : tie.After-code_of = search in
    let at-start : tie.Start = search in (
      λ size pixels. turn_added (job_of (lent_by size at-start.args.table.now pixels)) at-start.args.i (turn_at at-start.args.turn)
          at-start.args.store.now at-start.args.at _ _ at-start.requires.1 (sym (asked at-allowed size pixels) ∙ at-then1.if-allowed.true)
          at-code-of.code_of.ensures c.code_of-then-allowed.ensures,
      omega arith,
    )

returns : tie.Need-returns
returns c =
    let at-allowed : tie.After-allowed = search in
    let at-start : tie.Start = search in (
      λ size pixels. turn_passed (job_of (lent_by size at-start.args.table.now pixels)) at-start.args.i (turn_at at-start.args.turn)
          at-start.args.store.now at-start.args.at (sym (asked at-allowed size pixels) ∙ c.if-allowed.false),
      omega arith,
    )

pub add_turn_spec : {M : Type 1} → statement M
add_turn_spec =
    tie.close (tie.spec
    (search rules) (search rules) (search rules) (search rules) (search rules) (search rules) (search rules) (search rules)
    bounds-store-at-then-allowed (search rules) (search rules) returns-then-allowed returns)
