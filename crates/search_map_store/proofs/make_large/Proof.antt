-- `search_map_store::make_large` meets its contract: the words that are copied are the whole map. Assumes nothing.
use Rattle.list_laws.proofs.Kit.{◌≡◌, arith, length, rules}
use Rattle.overlap_laws.specs.Grown.{grown}
use Rattle.search_maps.specs.Map.{map_bound}
use Rattle.search_map_store.proofs.Keeping.{map_most, map_copied}
use Rattle.search_map_store.proofs.make_large.Statement.{statement}
use Rattle.search_map_store.proofs.make_large.Tie as tie

make_map-requires : tie.Need-make_map-requires
make_map-requires c κs =
    let at-start : tie.Start = search in
    let p = at-start.requires in
    (p.0, (p.1.0, (p.1.1.0, (p.1.1.1.0, record { enough = map_most at-start.args.sides p.0; short = omega arith }))))

copy_words-requires : tie.Need-copy_words-requires
copy_words-requires c κs =
    let at-start : tie.Start = search in
    let at-make-map : tie.After-make_map = search in
    let at-map-words : tie.After-map_words = search in
    let m = map_most at-start.args.sides at-start.requires.0 in
    let e = at-map-words.map_words.ensures in
    let r = at-start.requires.1.1.1.1.enough in
    let kept = at-make-map.make_map.auto in
    let words : length at-make-map.make_map.new.scratch ≡ length at-start.args.words.now = kept.scratch in
    let map : length at-make-map.make_map.new.words ≡ map_bound = kept.words in
    (omega arith, omega arith)

returns : tie.Need-returns
returns c =
    let at-start : tie.Start = search in
    let at-make-map : tie.After-make_map = search in
    let at-map-words : tie.After-map_words = search in
    let at-copy-words : tie.After-copy_words = search in
    let r = at-start.requires.1.1.1.1.enough in
    let words : length at-make-map.make_map.new.scratch ≡ length at-start.args.words.now = at-make-map.make_map.auto.scratch in
    λ d s t ez em et.
    map_copied at-start.args.sides _ _ _ _ at-map-words.map_words.ensures (omega arith)
    at-copy-words.copy_words.ensures d (grown at-start.args.extra s) t ez (at-make-map.make_map.ensures d s t ez em et)

pub make_large_spec : {M : Type 1} → statement M
make_large_spec =
    tie.close (tie.spec
    (search rules) make_map-requires (search rules) (search rules) copy_words-requires (search rules) returns)
