-- `move_piece`: the piece's box, its turned sides and its corner are what the laws of a piece on the sheet speak of.
-- Assumes nothing.
use Rattle.list_laws.proofs.Kit.{◌∙◌, refl, arith, rules}
use Rattle.model.specs.Lent.{lent_by}
use Rattle.job_laws.proofs.Checked.{facts}
use Rattle.piece_pixels.proofs.Jobs.{entry_stored}
use Rattle.sheet_counts.proofs.move_piece.Statement.{statement}
use Rattle.sheet_counts.proofs.move_piece.Tie as tie
use Rattle.sheet_counts.proofs.Pieces.{entry_there, piece_few, rows_room, piece_moved}

turned_sides-sides-requires : tie.Need-turned_sides-sides-requires
turned_sides-sides-requires c κs = entry_there _ _ _ _ c.requires

pixel_start-start-requires : tie.Need-pixel_start-start-requires
pixel_start-start-requires c κs =
    let at-start : tie.Start = search in
    let there = entry_there _ _ _ _ at-start.requires in
    let few = piece_few _ _ _ _ at-start.requires in
    (omega arith, omega arith)

turned_piece-piece-requires : tie.Need-turned_piece-piece-requires
turned_piece-piece-requires c κs =
    let at-start : tie.Start = search in
    entry_there _ _ _ _ at-start.requires

corner_number-first-requires : tie.Need-corner_number-first-requires
corner_number-first-requires c κs =
    let at-start : tie.Start = search in
    (facts _ at-start.requires.well).few_columns

move_rows-requires : tie.Need-move_rows-requires
move_rows-requires c κs =
    let at-pixel-start : tie.After-pixel_start-start = search in
    let at-turned-sides : tie.After-turned_sides-sides = search in
    let at-start : tie.Start = search in
    let a = at-start.args in
    let l = lent_by a.size a.table.now a.pixels.now in
    let ready = at-start.requires in
    let sides = at-turned-sides.turned_sides-sides.ensures in
    let start = at-pixel-start.pixel_start-start.ensures in
    let box = c.turned_piece-piece.ensures in
    let first = c.corner_number-first.ensures in
    let small = rw (sides.0 a.size a.pixels.now) at sides.1.1 in
    rw (box, start, first, sides.0 a.size a.pixels.now)
    (entry_stored l a.i a.place.turn ready.well ready.piece, rows_room l a.i a.place _ ready small)

returns : tie.Need-returns
returns c =
    let at-corner-number : tie.After-corner_number-first = search in
    let at-turned-piece : tie.After-turned_piece-piece = search in
    let at-pixel-start : tie.After-pixel_start-start = search in
    let at-turned-sides : tie.After-turned_sides-sides = search in
    let at-start : tie.Start = search in
    let a = at-start.args in
    let l = lent_by a.size a.table.now a.pixels.now in
    let ready = at-start.requires in
    let sides = at-turned-sides.turned_sides-sides.ensures in
    let start = at-pixel-start.pixel_start-start.ensures in
    let box = at-turned-piece.turned_piece-piece.ensures in
    let first = at-corner-number.corner_number-first.ensures in
    let moved = rw (box, start, first, sides.0 a.size a.pixels.now) at c.move_rows.ensures in
    moved ∙ piece_moved l a.i a.place _ ready a.change a.counts.now refl

pub move_piece_spec : {M : Type 1} → statement M
move_piece_spec =
    tie.close (tie.spec
    turned_sides-sides-requires pixel_start-start-requires turned_piece-piece-requires corner_number-first-requires move_rows-requires (search rules)
    returns)
