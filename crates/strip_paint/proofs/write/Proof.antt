-- `strip_paint::write` meets its contract: the box is cleared and the strips are set. Assumes nothing.
use Rattle.strip_check.proofs.Validity.{strip_listed}
use Rattle.strip_check.proofs.Edges.{well_valid}
use Rattle.strip_paint.proofs.Painting.{room_again}
use Rattle.strip_paint.proofs.Written.{written}
use Rattle.list_laws.proofs.Kit.{rules}
use Rattle.strip_paint.proofs.write.Statement.{statement}
use Rattle.strip_paint.proofs.write.Tie as tie

paint_strips-requires : tie.Need-paint_strips-requires
paint_strips-requires c κs =
    let at_clear : tie.After-clear = search in
    let at-start : tie.Start = search in
    let a = at-start.args in
    let p = at-start.requires in
    let v = well_valid a.direction a.columns a.rows a.strips.now p.1 in (
      room_again p.0 at_clear.clear.auto.pixels,
      λ i h. v.fits _ (strip_listed a.strips.now i h),
    )

returns : tie.Need-returns
returns c =
    let at_clear : tie.After-clear = search in
    let at-start : tie.Start = search in
    let a = at-start.args in
    let p = at-start.requires in
    let v = well_valid a.direction a.columns a.rows a.strips.now p.1 in
    written a.direction a.columns a.rows a.strips.now a.pixels.now _ p.0 v
    (rw at_clear.clear.ensures at c.paint_strips.ensures)

pub write_spec : {M : Type 1} → statement M
write_spec = tie.close (tie.spec
    (search rules) (search rules) paint_strips-requires (search rules) returns)
