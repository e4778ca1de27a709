-- `search_map_lines::map_line` meets its contract: by the direction, the line along a row or a column of the map. Assumes nothing.
use Rattle.list_laws.proofs.Kit.{◌∙◌, subst, sym, ap, arith, rules}
use Rattle.model.specs.declared.Direction.{Direction}
use Rattle.search_map_lines.specs.Line.{LineOf, places_of}
use Rattle.search_map_lines.proofs.map_line.Statement.{statement}
use Rattle.search_map_lines.proofs.map_line.Tie as tie

map_row-requires : tie.Need-map_row-requires
map_row-requires c κs =
    let at-start : tie.Start = search in
    let p = at-start.requires in
    let z = at-start.args.sides in
    let n = ap (λ (d : Direction). places_of d z) (sym c.before.in-Horizontal.is) in
    let f = p.0 in
    (f, (p.1.0, (p.1.1.0, (p.1.1.1.0, omega (arith, p.1.1.1.1), omega (arith, p.1.1.1.1, f.moved_along.high, f.standing_along.high)))))

map_column-requires : tie.Need-map_column-requires
map_column-requires c κs =
    let at-start : tie.Start = search in
    let p = at-start.requires in
    let z = at-start.args.sides in
    let n = ap (λ (d : Direction). places_of d z) (sym c.before.in-Vertical.is) in
    (p.0, (p.1.0, (p.1.1.0, (p.1.1.1.0, n ∙ p.1.1.1.1))))

returns-in-Horizontal : tie.Need-returns-in-Horizontal
returns-in-Horizontal c =
    let at-start : tie.Start = search in
    let at_told : tie.In-Horizontal = search in
    let at-map-row : tie.After-map_row = search in
    let a = at-start.args in
    λ s t e m.
    subst (λ (d : Direction). LineOf d s t a.offset a.line.now at-map-row.map_row.new.line)
    (sym at_told.in-Horizontal.is) (at-map-row.map_row.ensures _ s t e m)

returns-in-Vertical : tie.Need-returns-in-Vertical
returns-in-Vertical c =
    let at-start : tie.Start = search in
    let at_told : tie.In-Vertical = search in
    let at-map-column : tie.After-map_column = search in
    let a = at-start.args in
    λ s t e m.
    subst (λ (d : Direction). LineOf d s t a.offset a.line.now at-map-column.map_column.new.line)
    (sym at_told.in-Vertical.is) (at-map-column.map_column.ensures s t e m)

pub map_line_spec : {M : Type 1} → statement M
map_line_spec =
    tie.close (tie.spec
    (search rules) map_row-requires (search rules) map_column-requires (search rules) returns-in-Horizontal (search rules) returns-in-Vertical)
