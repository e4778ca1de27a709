-- `run_trials::add_piece` meets its contract: nothing is added for a locked piece, and the turns of a free one in their order. Assumes nothing.
use Rattle.list_laws.proofs.Kit.{◌∙◌, sym, arith, take, rules}
use Rattle.model.specs.Lent.{lent_by, job_of}
use Rattle.run_trials.specs.Trials.{trials_of}
use Rattle.run_trials.proofs.Listing.{piece_passed, piece_added}
use Rattle.run_trials.proofs.add_piece.Statement.{statement}
use Rattle.run_trials.proofs.add_piece.Tie as tie

-- the turns before the last, each from the one behind it
abbrev third : tie.After-add_turn → tie.After-add_turn-half
third p = search

abbrev second : tie.After-add_turn-half → tie.After-add_turn-quarter
second p = search

abbrev first : tie.After-add_turn-quarter → tie.After-add_turn-zero
first p = search

-- the test of the lock before them
abbrev free : tie.After-add_turn-zero → tie.Else-is_locked
free p = search

-- and the function's entry
abbrev begun : tie.After-is_locked → tie.Start
begun p = search

-- a locked piece
returns-then-is_locked : tie.Need-returns-then-is_locked
unfolding job_of
returns-then-is_locked c =
    let at-start : tie.Start = search in
    let asked : tie.After-is_locked = search in
    let ours : tie.Then-is_locked = search in (
      λ size pixels. piece_passed (job_of (lent_by size at-start.args.table.now pixels)) at-start.args.i
          (trials_of (take at-start.args.at at-start.args.store.now)) (sym asked.is_locked.ensures ∙ ours.if-is_locked.true),
      omega arith,
    )

-- a free one
returns : tie.Need-returns
unfolding job_of
returns c =
    let last : tie.After-add_turn = search in
    let half : tie.After-add_turn-half = third last in
    let quarter : tie.After-add_turn-quarter = second half in
    let zero : tie.After-add_turn-zero = first quarter in
    let other : tie.Else-is_locked = free zero in
    let asked : tie.After-is_locked = other.before in
    let at-start : tie.Start = begun asked in
    let a = zero.add_turn-zero.ensures.1 in
    let b = quarter.add_turn-quarter.ensures.1 in
    let d = half.add_turn-half.ensures.1 in
    let e = last.add_turn.ensures.1 in (
      λ size pixels. piece_added (job_of (lent_by size at-start.args.table.now pixels)) at-start.args.i
          (trials_of (take at-start.args.at at-start.args.store.now)) _ _ _ _ (sym asked.is_locked.ensures ∙ other.if-is_locked.false)
          (zero.add_turn-zero.ensures.0 size pixels) (quarter.add_turn-quarter.ensures.0 size pixels) (half.add_turn-half.ensures.0 size pixels)
          (last.add_turn.ensures.0 size pixels),
      omega arith,
    )

pub add_piece_spec : {M : Type 1} → statement M
add_piece_spec =
    tie.close (tie.spec
    (search rules) returns-then-is_locked (search rules) (search rules) (search rules) (search rules) (search rules) returns)
