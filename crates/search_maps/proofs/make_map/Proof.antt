-- `search_maps::make_map` meets its contract: the standing piece's strips are added to the marks of the moved one turned by half and grown.
-- Assumes nothing.
use Rattle.list_laws.proofs.Kit.{rules}
use Rattle.search_maps.proofs.Fitting.{levels_for}
use Rattle.search_maps.proofs.Shared.{map_from_lem}
use Rattle.search_maps.proofs.make_map.Statement.{statement}
use Rattle.search_maps.proofs.make_map.Tie as tie

make_levels-requires : tie.Need-make_levels-requires
make_levels-requires c κs =
    let at-start : tie.Start = search in
    let at-level-of : tie.After-level_of-levels = search in
    let p = at-start.requires in
    (p.0, (p.1.0, (p.1.1.1.0, levels_for _ _ at-level-of.level_of-levels.ensures)))

fill_map-requires : tie.Need-fill_map-requires
fill_map-requires c κs =
    let at-start : tie.Start = search in
    let at-level-of : tie.After-level_of-levels = search in
    let at-make-levels : tie.After-make_levels = search in
    let p = at-start.requires in
    (p.0, (p.1.1.0, (levels_for _ _ at-level-of.level_of-levels.ensures, (at-make-levels.make_levels.ensures.wide, p.1.1.1.1))))

returns : tie.Need-returns
returns c =
    let at-start : tie.Start = search in
    let at-make-levels : tie.After-make_levels = search in
    let a = at-start.args in
    λ d s t ez em et.
    map_from_lem d s t a.sides a.moved.now a.standing.now a.extra _ _ a.words.now _ ez em et at-make-levels.make_levels.ensures
    at-start.requires.1.1.1.1.enough c.before.before.fill_map.ensures

pub make_map_spec : {M : Type 1} → statement M
make_map_spec =
    tie.close (tie.spec
    (search rules) (search rules) make_levels-requires fill_map-requires (search rules) (search rules) returns)
