-- `search_maps::fill_map` meets its contract: the strips and marks add up to places within the words. Assumes nothing.
use Rattle.list_laws.proofs.Kit.{arith, rules}
use Rattle.search_maps.proofs.Fitting.{level_as, map_fits, filled_from}
use Rattle.search_maps.proofs.fill_map.Statement.{statement}
use Rattle.search_maps.proofs.fill_map.Tie as tie

clear_words-requires : tie.Need-clear_words-requires
clear_words-requires c κs = search rules

add_strips-requires : tie.Need-add_strips-requires
add_strips-requires c κs =
    let at-start : tie.Start = search in
    let at-row-width : tie.After-row_width-w = search in
    let at-mark-words : tie.After-mark_words-size = search in
    let at-clear-words : tie.After-clear_words = search in
    let p = at-start.requires in
    let z = at-start.args.sides in
    let size = at-mark-words.mark_words-size.ensures in
    let f =
    map_fits z p.0 _ _ _ _ at-row-width.row_width-w.ensures size p.1.1.0 p.1.1.1.1 at-start.args.standing.now p.1.0 in
    (level_as z _ _ _ size p.1.1.1.0, (rw at-clear-words.clear_words.ensures.same f.0, (f.1, omega arith)))

returns : tie.Need-returns
returns c =
    let at-start : tie.Start = search in
    let at-row-width : tie.After-row_width-w = search in
    let at-mark-words : tie.After-mark_words-size = search in
    let at-map-words : tie.After-map_words = search in
    let at-clear-words : tie.After-clear_words = search in
    let a = at-start.args in
    filled_from a.standing.now a.sides a.marks.now _ _ _ a.words.now _ _ at-row-width.row_width-w.ensures
    at-mark-words.mark_words-size.ensures at-map-words.map_words.ensures at-clear-words.clear_words.ensures c.before.before.add_strips.ensures

pub fill_map_spec : {M : Type 1} → statement M
fill_map_spec =
    tie.close (tie.spec
    (search rules) (search rules) (search rules) clear_words-requires add_strips-requires (search rules) returns)
