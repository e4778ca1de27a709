-- `search_maps::make_marks` meets its contract: strips added to one mark are their own pixels. Assumes nothing.
use Rattle.list_laws.proofs.Kit.{arith, rules}
use Rattle.search_maps.proofs.Marking.{marks_made}
use Rattle.search_maps.proofs.make_marks.Statement.{statement}
use Rattle.search_maps.proofs.make_marks.Tie as tie

add_strips-requires : tie.Need-add_strips-requires
add_strips-requires c κs =
    let at-start : tie.Start = search in
    let at-point-levels : tie.After-point_levels-points = search in
    let at-clear-words : tie.After-clear_words = search in
    let e = at-clear-words.clear_words.ensures.same in
    (at-point-levels.point_levels-points.ensures.levels, (rw e at-start.requires.1.0, (at-start.requires.1.1, omega arith)))

returns : tie.Need-returns
returns c =
    let at-start : tie.Start = search in
    let at-point-levels : tie.After-point_levels-points = search in
    let at-clear-words : tie.After-clear_words = search in
    let a = at-start.args in
    marks_made _ at-point-levels.point_levels-points.ensures a.es.now a.w a.size a.scratch.now _ _ at-clear-words.clear_words.ensures
    c.before.before.add_strips.ensures

pub make_marks_spec : {M : Type 1} → statement M
make_marks_spec = tie.close (tie.spec
    (search rules) (search rules) (search rules) add_strips-requires (search rules) returns)
