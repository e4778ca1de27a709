-- `one_more`: the test says which side of the definition's it is. Assumes nothing.
use Rattle.list_laws.proofs.Kit.{rules, le-ltb, lt-ltb}
use Rattle.sheet_counts.specs.Stamp.{moved}
use Rattle.sheet_counts.proofs.one_more.Statement.{statement}
use Rattle.sheet_counts.proofs.one_more.Tie as tie

returns-then-count-lt-COUNT_BOUND : tie.Need-returns-then-count-lt-COUNT_BOUND
returns-then-count-lt-COUNT_BOUND c = rw (lt-ltb _ _ c.if-count-lt-COUNT_BOUND.true, moved)

returns : tie.Need-returns
returns c = rw (le-ltb _ _ c.if-count-lt-COUNT_BOUND.false, moved)

pub one_more_spec : {M : Type 1} → statement M
one_more_spec = tie.close (tie.spec
    (search rules) returns-then-count-lt-COUNT_BOUND returns)
