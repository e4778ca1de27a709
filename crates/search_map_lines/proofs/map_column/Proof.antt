-- `search_map_lines::map_column` meets its contract: the column of cells at the offset, or none where the boxes do not meet across. Assumes nothing.
use Rattle.list_laws.proofs.Kit.{◌∙◌, ◌≡◌, inl, inr, sym, ◌+◌, ◌-◌, ◌<◌, arith, rules}
use Rattle.search_laws.specs.Lines.{middle}
use Rattle.search_maps.specs.Map.{columns_of}
use Rattle.search_map_lines.proofs.Lines.{column_reaches, far_column, near_column}
use Rattle.search_map_lines.proofs.map_column.Statement.{statement}
use Rattle.search_map_lines.proofs.map_column.Tie as tie

returns-then-offset-sides : tie.Need-returns-then-offset-sides
returns-then-offset-sides c =
    let at-start : tie.Start = search in
    let at-clear-line : tie.After-clear_line = search in
    let a = at-start.args in
    λ s t e m.
    far_column s t a.sides a.offset a.line.now _ e at-start.requires.1.1.1.1 at-clear-line.clear_line.ensures (inl (omega arith))

returns-then-offset-sides-le-MIDDLE : tie.Need-returns-then-offset-sides-le-MIDDLE
returns-then-offset-sides-le-MIDDLE c =
    let at-start : tie.Start = search in
    let at-clear-line : tie.After-clear_line = search in
    let a = at-start.args in
    λ s t e m.
    far_column s t a.sides a.offset a.line.now _ e at-start.requires.1.1.1.1 at-clear-line.clear_line.ensures (inr (omega arith))

-- the place after the line was cleared
abbrev cleared : tie.Else-offset-sides-le-MIDDLE → tie.After-clear_line
cleared c = search

-- where the boxes meet across, the column is one of the cells'
inside : (c : tie.Else-offset-sides-le-MIDDLE)
    →
    let at-start : tie.Start = search in
    let z = at-start.args.sides in
    let X = middle + z.moved_along - 1 - at-start.args.offset in
    (X < columns_of z) × (X + at-start.args.offset ≡ middle + (z.moved_along - 1))
inside c =
    let at-start : tie.Start = search in
    let at-else1 : tie.Else-offset-sides = search in
    let f = at-start.requires.0 in
    let x = at-else1.if-offset-sides.false in
    let y = c.if-offset-sides-le-MIDDLE.false in
    (omega (arith, f.moved_along.low), omega (arith, f.moved_along.low))

column_line-requires : tie.Need-column_line-requires
column_line-requires c κs =
    let at-start : tie.Start = search in
    let at-row-width : tie.After-row_width-w = search in
    let at-clear-line : tie.After-clear_line = search in
    let at-else2 : tie.Else-offset-sides-le-MIDDLE = search in
    let a = at-start.args in
    let p = at-start.requires in
    let i = inside at-else2 in
    let e = at-clear-line.clear_line.ensures.same in
    let n = p.1.1.1.1 in
    let r =
    column_reaches a.sides a.words.now p.0 p.1.0 p.1.1.0 _ i.0 _ _ at-row-width.row_width-w.ensures (e ∙ sym n) in
    (r.0, (r.1, (r.2, omega (arith, p.0.moved_across.high, p.0.standing_across.high))))

returns : tie.Need-returns
returns c =
    let at-start : tie.Start = search in
    let at-row-width : tie.After-row_width-w = search in
    let at-else2 : tie.Else-offset-sides-le-MIDDLE = search in
    let at-clear-line = cleared at-else2 in
    let at-column-line : tie.After-column_line = search in
    let a = at-start.args in
    let i = inside at-else2 in
    λ s t e m.
    near_column s t a.sides a.words.now a.offset _ _ a.line.now _ _ e at-row-width.row_width-w.ensures at-start.requires.0 m i.0 i.1
    at-start.requires.1.1.1.1 at-clear-line.clear_line.ensures.same at-column-line.column_line.ensures

pub map_column_spec : {M : Type 1} → statement M
map_column_spec =
    tie.close (tie.spec
    (search rules) (search rules) (search rules) (search rules) returns-then-offset-sides (search rules) (search rules)
    returns-then-offset-sides-le-MIDDLE (search rules) (search rules) (search rules) (search rules) column_line-requires (search rules) returns)
