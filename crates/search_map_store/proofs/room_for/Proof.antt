-- `search_map_store::room_for` meets its contract: the end of the maps, or the beginning once they are forgotten. Assumes nothing.
use Rattle.list_laws.proofs.Kit.{arith, rules}
use Rattle.search_map_store.proofs.Keeping.{room_after, room_first}
use Rattle.search_map_store.proofs.room_for.Statement.{statement}
use Rattle.search_map_store.proofs.room_for.Tie as tie

returns-then-end-left : tie.Need-returns-then-end-left
returns-then-end-left c =
    let at-start : tie.Start = search in
    let a = at-start.args in
    let p = at-start.requires in
    let l = c.if-end-left.true in
    room_after a.slots a.n a.words.now p.0 (omega arith)

returns : tie.Need-returns
returns c =
    let at-start : tie.Start = search in
    let at-forget-maps : tie.After-forget_maps = search in
    let a = at-start.args in
    room_first a.slots a.n a.words.now _ at-start.requires.1 at-forget-maps.forget_maps.ensures

pub room_for_spec : {M : Type 1} → statement M
room_for_spec =
    tie.close (tie.spec
    (search rules) (search rules) (search rules) returns-then-end-left (search rules) (search rules) (search rules) returns)
