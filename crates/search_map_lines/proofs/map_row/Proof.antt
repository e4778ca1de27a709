-- `search_map_lines::map_row` meets its contract: the row of cells at the offset, or no row where the boxes do not meet across. Assumes nothing.
use Rattle.list_laws.proofs.Kit.{◌≡◌, inl, inr, ◌+◌, ◌-◌, ◌≤◌, arith, rules}
use Rattle.search_laws.specs.Lines.{middle}
use Rattle.search_maps.specs.Map.{rows_of}
use Rattle.search_map_lines.proofs.Lines.{row_reaches, row_small, far_line, near_line}
use Rattle.search_map_lines.proofs.map_row.Statement.{statement}
use Rattle.search_map_lines.proofs.map_row.Tie as tie

returns-then-offset-sides : tie.Need-returns-then-offset-sides
returns-then-offset-sides c =
    let at-start : tie.Start = search in
    let at-row-width : tie.After-row_width-w = search in
    let at-clear-line : tie.After-clear_line = search in
    let a = at-start.args in
    λ d s t e m.
    far_line d s t a.sides a.offset _ a.line.now _ e at-row-width.row_width-w.ensures at-clear-line.clear_line.ensures (inl (omega arith))

returns-then-offset-sides-le-MIDDLE : tie.Need-returns-then-offset-sides-le-MIDDLE
returns-then-offset-sides-le-MIDDLE c =
    let at-start : tie.Start = search in
    let at-row-width : tie.After-row_width-w = search in
    let at-clear-line : tie.After-clear_line = search in
    let a = at-start.args in
    λ d s t e m.
    far_line d s t a.sides a.offset _ a.line.now _ e at-row-width.row_width-w.ensures at-clear-line.clear_line.ensures (inr (omega arith))

-- the place after the line was cleared
abbrev cleared : tie.Else-offset-sides-le-MIDDLE → tie.After-clear_line
cleared c = search

-- where the boxes meet across, the row is one of the cells'
inside : (c : tie.Else-offset-sides-le-MIDDLE)
    →
    let at-start : tie.Start = search in
    let z = at-start.args.sides in
    let row = middle + z.moved_across - at-start.args.offset in
    (1 ≤ row) × (row ≤ rows_of z) × (row + at-start.args.offset ≡ middle + z.moved_across)
inside c =
    let at-start : tie.Start = search in
    let at-else1 : tie.Else-offset-sides = search in
    let f = at-start.requires.0 in
    let x = at-else1.if-offset-sides.false in
    let y = c.if-offset-sides-le-MIDDLE.false in
    (omega arith, omega (arith, f.moved_across.low), omega arith)

overflow_mul-row : tie.Need-overflow_mul-row
overflow_mul-row c =
    let at-start : tie.Start = search in
    let at-row-width : tie.After-row_width-w = search in
    let at-else2 : tie.Else-offset-sides-le-MIDDLE = search in
    let i = inside at-else2 in
    let h = row_small at-start.args.sides _ _ at-start.requires.0 at-row-width.row_width-w.ensures i.1 in
    omega arith

row_line-requires : tie.Need-row_line-requires
row_line-requires c κs =
    let at-start : tie.Start = search in
    let at-row-width : tie.After-row_width-w = search in
    let at-clear-line : tie.After-clear_line = search in
    let a = at-start.args in
    let p = at-start.requires in
    let f = p.0 in
    let at-else2 : tie.Else-offset-sides-le-MIDDLE = search in
    let i = inside at-else2 in
    let e = at-clear-line.clear_line.ensures.same in
    let w = at-row-width.row_width-w.ensures in (
      row_reaches a.sides a.words.now f p.1.0 p.1.1.0 _ i.0 i.1 _ w,
      (omega arith, omega arith),
    )

returns : tie.Need-returns
returns c =
    let at-start : tie.Start = search in
    let at-row-width : tie.After-row_width-w = search in
    let a = at-start.args in
    let f = at-start.requires.0 in
    let at-else2 : tie.Else-offset-sides-le-MIDDLE = search in
    let at-clear-line = cleared at-else2 in
    let i = inside at-else2 in
    λ d s t e m.
    near_line d s t a.sides a.words.now a.offset _ _ a.line.now _ _ e at-row-width.row_width-w.ensures f m i.0 i.1
    i.2 at-clear-line.clear_line.ensures c.before.before.row_line.ensures

pub map_row_spec : {M : Type 1} → statement M
map_row_spec =
    tie.close (tie.spec
    (search rules) (search rules) (search rules) (search rules) (search rules) returns-then-offset-sides (search rules) (search rules)
    returns-then-offset-sides-le-MIDDLE (search rules) (search rules) overflow_mul-row row_line-requires (search rules) returns)
