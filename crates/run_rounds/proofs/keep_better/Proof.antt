-- `run_rounds::keep_better` meets its contract: by the test of the two sums. Assumes nothing.
use Rattle.list_laws.proofs.Kit.{rules, le-ltb, lt-ltb}
use Rattle.run_rounds.specs.Rounds.{better_round, better_sum}
use Rattle.run_rounds.proofs.keep_better.Statement.{statement}
use Rattle.run_rounds.proofs.keep_better.Tie as tie

returns-then-sum-best_sum : tie.Need-returns-then-sum-best_sum
returns-then-sum-best_sum c =
    let at-then1 : tie.Then-sum-best_sum = search in
    let e = lt-ltb _ _ at-then1.if-sum-best_sum.true in
    (rw (e, better_round) c.copy.ensures, rw (e, better_sum))

returns : tie.Need-returns
returns c = let e = le-ltb _ _ c.if-sum-best_sum.false in (rw (e, better_round), rw (e, better_sum))

pub keep_better_spec : {M : Type 1} → statement M
keep_better_spec = tie.close (tie.spec
    (search rules) (search rules) returns-then-sum-best_sum returns)
