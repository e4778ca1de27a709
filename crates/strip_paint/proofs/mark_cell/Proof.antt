-- `strip_paint::mark_cell` meets its contract. Assumes nothing.
use Rattle.list_laws.proofs.Kit.{rules}
use Rattle.strip_paint.proofs.mark_cell.Statement.{statement}
use Rattle.strip_paint.proofs.mark_cell.Tie as tie

mark-requires : tie.Need-mark-requires
mark-requires c κs =
    let at-start : tie.Start = search in
    rw c.in-Horizontal.is at at-start.requires

mark-requires-in-Vertical : tie.Need-mark-requires-in-Vertical
mark-requires-in-Vertical c κs =
    let at-start : tie.Start = search in
    rw c.in-Vertical.is at at-start.requires

returns-in-Horizontal : tie.Need-returns-in-Horizontal
returns-in-Horizontal c =
    let at-enum-told : tie.In-Horizontal = search in
    rw at-enum-told.in-Horizontal.is c.mark.ensures

returns-in-Vertical : tie.Need-returns-in-Vertical
returns-in-Vertical c =
    let at-enum-told2 : tie.In-Vertical = search in
    rw at-enum-told2.in-Vertical.is c.mark-in-Vertical.ensures

pub mark_cell_spec : {M : Type 1} → statement M
mark_cell_spec =
    tie.close (tie.spec
    (search rules) mark-requires (search rules) mark-requires-in-Vertical (search rules) returns-in-Horizontal (search rules) returns-in-Vertical)
