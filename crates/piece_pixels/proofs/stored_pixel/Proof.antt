-- `piece_pixels::stored_pixel` meets its contract: the place lies among the box's pixels, and the store has them. Assumes nothing.
use Rattle.list_laws.proofs.Kit.{rules}
use Rattle.piece_pixels.proofs.stored_pixel.Statement.{statement}
use Rattle.piece_pixels.proofs.stored_pixel.Tie as tie

returns : tie.Need-returns
returns c =
    let at-start : tie.Start = search in
    c.before.cell_index.ensures.0 at-start.args.pixels.now

pub stored_pixel_spec : {M : Type 1} → statement M
stored_pixel_spec = tie.close (tie.spec
    (search rules) (search rules) returns)
