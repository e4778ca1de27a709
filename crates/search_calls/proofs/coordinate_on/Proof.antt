-- `search_calls::coordinate_on` meets its contract, by the line. Assumes nothing.
use Rattle.list_laws.proofs.Kit.{ap, sym, rules}
use Rattle.model.specs.Piece.{coordinate_on}
use Rattle.model.specs.declared.Line.{Line}
use Rattle.search_calls.proofs.coordinate_on.Statement.{statement}
use Rattle.search_calls.proofs.coordinate_on.Tie as tie

returns-in-InRow : tie.Need-returns-in-InRow
returns-in-InRow c = sym (ap (λ (l : Line). coordinate_on l c.args.at) c.in-InRow.is)

returns-in-InColumn : tie.Need-returns-in-InColumn
returns-in-InColumn c = sym (ap (λ (l : Line). coordinate_on l c.args.at) c.in-InColumn.is)

pub coordinate_on_spec : {M : Type 1} → statement M
coordinate_on_spec = tie.close (tie.spec
    (search rules) (search rules) returns-in-InRow returns-in-InColumn)
