-- `pair_measure::placed_depth`: a small store where it has room, and else one for any two pieces. Assumes nothing.
use Rattle.list_laws.proofs.Kit.{sym, subst, arith, rules}
use Rattle.pair_measure.specs.Ready.{Roomy}
use Rattle.pair_measure.proofs.placed_depth.Statement.{statement}
use Rattle.pair_measure.proofs.placed_depth.Tie as tie

depth_in-requires : tie.Need-depth_in-requires
depth_in-requires c κs =
    let s : tie.Start = search in
    let asked : tie.After-few_strips = search in
    let tested : tie.Then-few_strips = search in
    let made : tie.After-small_store-store = search in
    let r = s.requires in
    let room = subst (Roomy s.args.table.now s.args.i s.args.k) (sym made.small_store-store.ensures)
    (asked.few_strips.ensures tested.if-few_strips.true) in
    (r.0, (r.1.0, (r.1.1.1, room)))

depth_in-requires-2 : tie.Need-depth_in-requires-2
depth_in-requires-2 c κs =
    let s : tie.Start = search in
    let made : tie.After-empty_store-store = search in
    let r = s.requires in
    let wide = made.empty_store-store.ensures in
    let together = r.1.1.0 in
    (r.0, (r.1.0, (r.1.1.1, omega arith)))

returns-then-few_strips : tie.Need-returns-then-few_strips
returns-then-few_strips c = let measured : tie.After-depth_in = search in measured.depth_in.ensures

returns : tie.Need-returns
returns c = let measured : tie.After-depth_in-2 = search in measured.depth_in-2.ensures

pub placed_depth_spec : {M : Type 1} → statement M
placed_depth_spec =
    tie.close (tie.spec
    (search rules) (search rules) (search rules) depth_in-requires returns-then-few_strips (search rules) (search rules) depth_in-requires-2 returns)
