-- `run_rounds::after_round`: by the test of the end. Assumes nothing.
use Rattle.list_laws.proofs.Kit.{◌≡◌, arith, false, true}
use Rattle.model.specs.Guided.{is_clear}
use Rattle.run_rounds.specs.Rounds.{left_after, raised_after}
use Rattle.run_rounds.proofs.after_round.Goals as goal

pub returns-then-clear : goal.returns-then-clear
returns-then-clear c =
    let clear : is_clear c.args.end ≡ true = grind arith in
    record { left = rw (clear, left_after); weights = λ j v e t w. rw (clear, raised_after) }

pub returns : goal.returns
returns c =
    let unclear : is_clear c.args.end ≡ false = grind arith in
    record { left = rw (unclear, left_after); weights = λ j v e t w. rw (unclear, raised_after) (c.raise.ensures j v e t w) }
