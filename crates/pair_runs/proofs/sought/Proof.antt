-- `pair_runs::sought`: by the test. Assumes nothing.
use Rattle.list_laws.proofs.Kit.{arith}
use Rattle.pair_runs.proofs.Places.{sought_set, sought_clear}
use Rattle.pair_runs.proofs.sought.Statement.{statement}
use Rattle.pair_runs.proofs.sought.Tie as tie

returns-then-bit : tie.Need-returns-then-bit
returns-then-bit c = sought_set c.before.args.word c.before.args.bit c.if-bit.true (omega (arith, c.before.ranges.word))

returns-else-bit : tie.Need-returns-else-bit
returns-else-bit c = sought_clear c.before.args.word c.before.args.bit c.if-bit.false (omega (arith, c.before.ranges.word))

pub sought_spec : {M : Type 1} → statement M
sought_spec = tie.close (tie.spec
    returns-then-bit returns-else-bit)
