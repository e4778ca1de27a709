-- `strip_calls::compare::starts_at` meets its contract. Assumes nothing.
use Rattle.list_laws.proofs.Kit.{arith, rules, le-ltb, lt-ltb}
use Rattle.strip_store.proofs.compare.starts_at.Statement.{statement}
use Rattle.strip_store.proofs.compare.starts_at.Tie as tie

overflow_cast-result : tie.Need-overflow_cast-result
overflow_cast-result c = omega (arith, c.shared_slice_known-1.given c.args.i)

returns-then-i-starts : tie.Need-returns-then-i-starts
returns-then-i-starts c = simp (lt-ltb _ _ c.if-i-starts.true)

returns : tie.Need-returns
returns c = simp (le-ltb _ _ c.if-i-starts.false)

pub starts_at_spec : {M : Type 1} → statement M
starts_at_spec = tie.close (tie.spec
    (search rules) (search rules) overflow_cast-result returns-then-i-starts returns)
