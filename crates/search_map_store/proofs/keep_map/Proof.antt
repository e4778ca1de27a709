-- `search_map_store::keep_map` meets its contract: a slot of that key has the map already. Assumes nothing.
use Rattle.list_laws.proofs.Kit.{rules}
use Rattle.search_map_store.specs.Store.{all_grown}
use Rattle.search_map_store.proofs.Keeping.{found}
use Rattle.search_map_store.proofs.keep_map.Statement.{statement}
use Rattle.search_map_store.proofs.keep_map.Tie as tie

returns-then-held-key : tie.Need-returns-then-held-key
returns-then-held-key c =
    let at-start : tie.Start = search in
    let a = at-start.args in
    λ d s t ez em et. found a.slots d (all_grown a.extra s) t a.key a.slot a.words.now at-start.requires.1.1.1.slot_in c.if-held-key.true

add_map-requires : tie.Need-add_map-requires
add_map-requires c κs =
    let at-start : tie.Start = search in
    at-start.requires

returns : tie.Need-returns
returns c =
    let at-add-map : tie.After-add_map = search in
    at-add-map.add_map.ensures

pub keep_map_spec : {M : Type 1} → statement M
keep_map_spec =
    tie.close (tie.spec
    (search rules) (search rules) (search rules) returns-then-held-key add_map-requires (search rules) returns)
