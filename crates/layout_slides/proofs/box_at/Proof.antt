-- `layout_slides::box_at` meets its contract, direction by direction: the corner is the placement's, and the sides are the turned box's.
-- Assumes nothing.
use Rattle.list_laws.proofs.Kit.{rules}
use Rattle.model.specs.Lent.{lent_by, job_of}
use Rattle.model.specs.Buffer.{layout_of}
use Rattle.layout_slides.proofs.Boxes.{box_rows_lem, box_columns_lem}
use Rattle.layout_slides.proofs.box_at.Statement.{statement}
use Rattle.layout_slides.proofs.box_at.Tie as tie

returns-in-Horizontal : tie.Need-returns-in-Horizontal
returns-in-Horizontal c =
    let at-start : tie.Start = search in
    let placed : tie.After-place_at-place = search in
    let seen_at : tie.After-corner_along-corner = search in
    let sided : tie.After-turned_sides-sides = search in
    let told : tie.In-Horizontal = search in
    let a = at-start.args in
    let small = sided.turned_sides-sides.ensures.1 in (
      λ size pixels.
          box_rows_lem (job_of (lent_by size a.table.now pixels)) (layout_of a.layout.now) a.i a.direction placed.place_at-place.result
          seen_at.corner_along-corner.result sided.turned_sides-sides.result placed.place_at-place.ensures seen_at.corner_along-corner.ensures
          (sided.turned_sides-sides.ensures.0 size pixels) told.in-Horizontal.is,
      (small.0, small.1),
    )

returns-in-Vertical : tie.Need-returns-in-Vertical
returns-in-Vertical c =
    let at-start : tie.Start = search in
    let placed : tie.After-place_at-place = search in
    let seen_at : tie.After-corner_along-corner = search in
    let sided : tie.After-turned_sides-sides = search in
    let told : tie.In-Vertical = search in
    let a = at-start.args in
    let small = sided.turned_sides-sides.ensures.1 in (
      λ size pixels.
          box_columns_lem (job_of (lent_by size a.table.now pixels)) (layout_of a.layout.now) a.i a.direction placed.place_at-place.result
          seen_at.corner_along-corner.result sided.turned_sides-sides.result placed.place_at-place.ensures seen_at.corner_along-corner.ensures
          (sided.turned_sides-sides.ensures.0 size pixels) told.in-Vertical.is,
      (small.1, small.0),
    )

pub box_at_spec : {M : Type 1} → statement M
box_at_spec =
    tie.close (tie.spec
    (search rules) (search rules) (search rules) (search rules) (search rules) returns-in-Horizontal returns-in-Vertical)
