-- `search_calls::search_alone` meets its contract: the largest bound is above every sum. Assumes nothing.
use Rattle.list_laws.proofs.Kit.{◌∙◌, ap, sym, ℕ, arith, length-replicate, rules}
use Rattle.model.specs.Lent.{lent_by}
use Rattle.search_shapes.proofs.Rooms.{room_of_lem}
use Rattle.search_line_sums.specs.Answers.{found_answer}
use Rattle.search_calls.proofs.Answering.{store_ready, search_whole}
use Rattle.search_calls.proofs.search_alone.Statement.{statement}
use Rattle.search_calls.proofs.search_alone.Tie as tie

ready_maps-requires : tie.Need-ready_maps-requires
ready_maps-requires c κs =
    let at-start : tie.Start = search in
    let n = length-replicate {A = ℕ} 29061 0 in
    (at-start.requires.0.well, (omega arith, omega arith))

slice_bounds-make_shapes-end : tie.Need-slice_bounds-make_shapes-end
slice_bounds-make_shapes-end c = let made : tie.After-empty_store-strips = search in sym made.empty_store-strips.ensures

make_shapes-requires : tie.Need-make_shapes-requires
make_shapes-requires c κs =
    let at-start : tie.Start = search in
    let made : tie.After-empty_store-strips = search in
    (at-start.requires.0.well, room_of_lem _ made.empty_store-strips.ensures)

search_below-requires : tie.Need-search_below-requires
search_below-requires c κs =
    let at-start : tie.Start = search in
    let shaped : tie.After-make_shapes = search in
    let mapped : tie.After-ready_maps = search in
    let a = at-start.args in
    let l = lent_by a.size a.table.now a.pixels.now in (
      store_ready l _ _ _ at-start.requires.0.well shaped.make_shapes.ensures mapped.ready_maps.ensures,
      (at-start.requires.0, (at-start.requires.1.0, at-start.requires.1.1)),
    )

returns : tie.Need-returns
returns c =
    let at-start : tie.Start = search in
    let searched : tie.After-search_below = search in
    let a = at-start.args in
    let l = lent_by a.size a.table.now a.pixels.now in
    searched.search_below.ensures.0
    ∙ ap found_answer
    (search_whole l a.weights.now a.layout.now a.mover.piece a.mover.turn a.mover.line at-start.requires.0 at-start.requires.1.0
    at-start.requires.1.1)

pub search_alone_spec : {M : Type 1} → statement M
search_alone_spec =
    tie.close (tie.spec
    (search rules) (search rules) ready_maps-requires slice_bounds-make_shapes-end (search rules) make_shapes-requires (search rules) (search rules)
    (search rules) (search rules) search_below-requires returns)
