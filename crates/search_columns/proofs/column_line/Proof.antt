-- `search_columns::column_line` meets its contract: three sides of each place, lowered by counts from the last place on. Assumes nothing.
use Rattle.list_laws.proofs.Kit.{arith, rules}
use Rattle.search_columns.proofs.Counts.{column_done}
use Rattle.search_columns.proofs.column_line.Statement.{statement}
use Rattle.search_columns.proofs.column_line.Tie as tie

sides_line-requires : tie.Need-sides_line-requires
sides_line-requires c κs = let at-start : tie.Start = search in let h = at-start.requires in (h.0, (h.1.0, h.1.1.1))

fall-requires : tie.Need-fall-requires
fall-requires c κs =
    let at-start : tie.Start = search in
    let at-sides-line : tie.After-sides_line = search in
    omega (arith, at-sides-line.sides_line.ensures.same, at-start.requires.1.1.1)

returns : tie.Need-returns
returns c =
    let at-start : tie.Start = search in
    let at-sides-line : tie.After-sides_line = search in
    let at-fall : tie.After-fall = search in
    let a = at-start.args in
    let h = at-start.requires in
    column_done a.ws.now a.w a.p a.line.now _ _ at-sides-line.sides_line.ensures at-fall.fall.ensures h.1.0 h.1.1.0

pub column_line_spec : {M : Type 1} → statement M
column_line_spec = tie.close (tie.spec
    sides_line-requires fall-requires (search rules) returns)
