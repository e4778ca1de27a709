-- `piece_pixels::turned_piece` meets its contract: the sides are those of the table's entry. Assumes nothing.
use Rattle.list_laws.proofs.Kit.{rules}
use Rattle.piece_pixels.proofs.turned_piece.Statement.{statement}
use Rattle.piece_pixels.proofs.turned_piece.Tie as tie

returns : tie.Need-returns
returns c =
    let at-columns-of : tie.After-columns_of = search in
    rw (at-columns-of.columns_of.ensures.0, c.rows_of.ensures.0)

pub turned_piece_spec : {M : Type 1} → statement M
turned_piece_spec =
    tie.close
    (tie.spec
    (search rules) (search rules) returns)
