-- `run_step::place_on` meets its contract, by the line. Assumes nothing.
use Rattle.list_laws.proofs.Kit.{rules}
use Rattle.run_step.proofs.place_on.Statement.{statement}
use Rattle.run_step.proofs.place_on.Tie as tie

returns-in-InRow : tie.Need-returns-in-InRow
returns-in-InRow c = rw c.in-InRow.is

returns-in-InColumn : tie.Need-returns-in-InColumn
returns-in-InColumn c = rw c.in-InColumn.is

pub place_on_spec : {M : Type 1} → statement M
place_on_spec = tie.close (tie.spec
    (search rules) (search rules) (search rules) returns-in-InRow returns-in-InColumn)
