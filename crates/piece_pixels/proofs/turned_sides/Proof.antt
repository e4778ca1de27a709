-- `piece_pixels::turned_sides` meets its contract: the sides in the turn are those of the job's piece. Assumes nothing.
use Rattle.list_laws.proofs.Kit.{rules}
use Rattle.model.specs.Lent.{lent_by, lent_shape, job_of}
use Rattle.piece_pixels.proofs.turned_sides.Statement.{statement}
use Rattle.piece_pixels.proofs.turned_sides.Tie as tie

returns : tie.Need-returns
unfolding job_of
returns c =
    let at-start : tie.Start = search in
    let at-columns-of : tie.After-columns_of-columns = search in
    let at-rows-of : tie.After-rows_of-rows = search in
    let a = at-start.args in
    let l = at-columns-of.columns_of-columns.ensures in
    let w = at-rows-of.rows_of-rows.ensures in
    let s = c.sides_in.ensures in
    (λ size pixels. s.0 (lent_shape (lent_by size a.table.now pixels) a.i) l.0 w.0, s.1 255 l.1 w.1)

pub turned_sides_spec : {M : Type 1} → statement M
turned_sides_spec =
    tie.close
    (tie.spec
    (search rules) (search rules) (search rules) returns)
