-- `c_interface::record::numbers_of` meets its contract: laid is 1 or 0 by the test. Assumes nothing.
use Rattle.list_laws.proofs.Kit.{rules}
use Rattle.c_interface.proofs.record.numbers_of.Statement.{statement}
use Rattle.c_interface.proofs.record.numbers_of.Tie as tie

returns-then-entry : tie.Need-returns-then-entry
returns-then-entry c = rw (c.if-entry.true, c.before.degrees_of-degrees.ensures)

returns : tie.Need-returns
returns c = rw (c.if-entry.false, c.before.degrees_of-degrees.ensures)

pub numbers_of_spec : {M : Type 1} → statement M
numbers_of_spec = tie.close (tie.spec
    (search rules) returns-then-entry returns)
