-- `layout_places::inside_at` meets its contract: the two tests are those of the turned box's sides (`inside_by_sides`). Assumes nothing.
use Rattle.list_laws.proofs.Kit.{rules, le-leb, lt-leb}
use Rattle.model.specs.Lent.{job_of, lent_by}
use Rattle.layout_places.specs.Boxes.{place_at}
use Rattle.layout_places.proofs.Places.{inside_by_sides}
use Rattle.layout_places.proofs.inside_at.Statement.{statement}
use Rattle.layout_places.proofs.inside_at.Tie as tie

returns-then-right-size : tie.Need-returns-then-right-size
unfolding job_of
returns-then-right-size c = λ pixels.
    let at-turned-sides : tie.After-turned_sides-sides = search in
    let at-start : tie.Start = search in
    let a = at-start.args in
    let sides = at-turned-sides.turned_sides-sides in
    rw (
      inside_by_sides (job_of (lent_by a.size a.table.now pixels)) a.i (place_at a.turn a.x.0 a.y.0) _ (sides.ensures.0 a.size pixels),
      le-leb _ _ c.before.if-right-size.true,
    )

returns-else-right-size : tie.Need-returns-else-right-size
unfolding job_of
returns-else-right-size c = λ pixels.
    let at-turned-sides : tie.After-turned_sides-sides = search in
    let at-start : tie.Start = search in
    let a = at-start.args in
    let sides = at-turned-sides.turned_sides-sides in
    rw (
      inside_by_sides (job_of (lent_by a.size a.table.now pixels)) a.i (place_at a.turn a.x.0 a.y.0) _ (sides.ensures.0 a.size pixels),
      lt-leb _ _ c.if-right-size.false,
    )

pub inside_at_spec : {M : Type 1} → statement M
inside_at_spec = tie.close (tie.spec
    (search rules) (search rules) (search rules) (search rules) (search rules) returns-then-right-size returns-else-right-size)
