-- `pair_calls::wrong_pair`: by the tests. Assumes nothing.
use Rattle.list_laws.proofs.Kit.{le-ltb, lt-ltb}
use Rattle.pair_calls.proofs.wrong_pair.Statement.{statement}
use Rattle.pair_calls.proofs.wrong_pair.Tie as tie

returns-then-count-i : tie.Need-returns-then-count-i
returns-then-count-i c = rw (le-ltb _ _ c.if-count-i.true)

returns-then-count-k : tie.Need-returns-then-count-k
returns-then-count-k c = rw (lt-ltb _ _ c.before.if-count-i.false, le-ltb _ _ c.if-count-k.true)

returns : tie.Need-returns
returns c = rw (lt-ltb _ _ c.before.if-count-i.false, lt-ltb _ _ c.if-count-k.false)

pub wrong_pair_spec : {M : Type 1} → statement M
wrong_pair_spec = tie.close (tie.spec
    returns-then-count-i returns-then-count-k returns)
