-- `search_lines::find_map` meets its contract: the map of the key, made with the moved piece grown by twice the gap, is the map of the two
-- pieces grown by the gap. Assumes nothing.
use Rattle.list_laws.proofs.Kit.{◌∙◌, ◌≡◌, refl, List, ◌++◌, ◌+◌, ◌-◌, ℕ, arith, drop, length, take, rules}
use Rattle.model.specs.Layout.{turned_piece}
use Rattle.model.specs.Lent.{Lent, lent_by, job_of}
use Rattle.model.specs.declared.Direction.TheVariants.{Horizontal}
use Rattle.overlap_laws.specs.Grown.{grown}
use Rattle.search_maps.specs.Map.{sides_of}
use Rattle.search_map_laws.proofs.Grown.{sides_none}
use Rattle.search_lines.specs.Kept.{class_words}
use Rattle.search_lines.specs.Making.{moved_shape, standing_shape, MapFound}
use Rattle.search_lines.proofs.Making.{moved_entry, standing_entry, gap_few, small_two, moved_held, standing_held}
use Rattle.search_lines.proofs.Making.{making_made, store_fits_lem, moved_asked, standing_asked, map_found}
use Rattle.search_lines.proofs.find_map.Statement.{statement}
use Rattle.search_lines.proofs.find_map.Tie as tie

-- the lent job
abbrev lent : tie.Start → Lent
lent c = lent_by c.args.size c.args.table.now c.args.pixels.now

shape_strips-a-requires : tie.Need-shape_strips-a-requires
shape_strips-a-requires c κs =
    let at-start : tie.Start = search in
    let at-opposite-turn : tie.After-opposite_turn-opposite = search in
    moved_held (lent at-start) _ _ at-start.args.two at-start.requires.0 at-opposite-turn.opposite_turn-opposite.result

shape_strips-b-requires : tie.Need-shape_strips-b-requires
shape_strips-b-requires c κs =
    let at-start : tie.Start = search in
    standing_held (lent at-start) _ _ at-start.args.two at-start.requires.0

map_key-key-requires : tie.Need-map_key-key-requires
map_key-key-requires c κs =
    let at-start : tie.Start = search in
    small_two (lent at-start) _ _ at-start.args.two at-start.requires.0

map_slot-slot-requires : tie.Need-map_slot-slot-requires
map_slot-slot-requires c κs =
    let at-start : tie.Start = search in
    small_two (lent at-start) _ _ at-start.args.two at-start.requires.0

overflow_add-extra : tie.Need-overflow_add-extra
overflow_add-extra c = let e : tie.Start = search in let g = gap_few (lent e) _ _ e.args.two e.requires.0 in omega arith

grown_sides-sides-requires : tie.Need-grown_sides-sides-requires
grown_sides-sides-requires c κs =
    let e : tie.Start = search in
    let two = e.args.two in
    let g = gap_few (lent e) _ _ two e.requires.0 in
    ((moved_entry (lent e) _ _ two e.requires.0, standing_entry (lent e) _ _ two e.requires.0), (omega arith, omega arith))

-- the entry, from where the sides are known
abbrev start : tie.After-grown_sides-sides → tie.Start
start c = search

-- the sides are those of the moved piece grown by twice the gap and the standing one as it is
is : (c : tie.After-grown_sides-sides)
    →
    let l = lent (start c) in
    let two = (start c).args.two in
    c.grown_sides-sides.result
    ≡ sides_of Horizontal (grown (l.size.gap + l.size.gap) (turned_piece (job_of l) two.moved two.moved_turn))
    (turned_piece (job_of l) two.standing two.standing_turn)
is c =
    let e = start c in
    let l = lent e in
    let two = e.args.two in
    c.grown_sides-sides.ensures e.args.size e.args.pixels.now
    ∙ sides_none (grown (l.size.gap + l.size.gap) (turned_piece (job_of l) two.moved two.moved_turn))
    (turned_piece (job_of l) two.standing two.standing_turn)

keep_map-at-requires : tie.Need-keep_map-at-requires
unfolding job_of
keep_map-at-requires c κs =
    let at-start : tie.Start = search in
    let at-opposite-turn : tie.After-opposite_turn-opposite = search in
    let at-shape-strips : tie.After-shape_strips-a = search in
    let at-shape-strips2 : tie.After-shape_strips-b = search in
    let at-grown-sides : tie.After-grown_sides-sides = search in
    let at-map-key : tie.After-map_key-key = search in
    let at-map-slot : tie.After-map_slot-slot = search in
    let l = lent at-start in
    let two = at-start.args.two in
    let z = at-grown-sides.grown_sides-sides.result in
    let asked = at-start.requires.0 in
    let e = is at-grown-sides in (
      making_made l _ _ two asked z e,
      (
        (moved_asked l _ _ two asked z e _ at-opposite-turn.opposite_turn-opposite.ensures _ at-shape-strips.shape_strips-a.ensures).0,
        (
          (standing_asked l _ _ two asked z e _ at-shape-strips2.shape_strips-b.ensures).0,
          store_fits_lem l _ _ two asked z e _ _ at-map-key.map_key-key.ensures.1 at-map-slot.map_slot-slot.ensures _ _ refl at-start.requires.1,
        ),
      ),
    )

-- the entry, from where the map is found
abbrev entry : tie.After-keep_map-at → tie.Start
entry c = search

-- the words past the classes, with the map
abbrev part : tie.After-keep_map-at → List ℕ
part c = c.keep_map-at.new.words

-- the map that is found
found : (c : tie.After-keep_map-at)
    →
    let l = lent (entry c) in
    let two = (entry c).args.two in
    let maps = (entry c).args.maps.now in
    MapFound (job_of l) (moved_shape l two) (standing_shape l two) maps
    (take class_words maps ++ (part c ++ drop (length maps - class_words) (drop class_words maps))) (class_words + c.keep_map-at.result)
unfolding job_of
found c =
    let at-opposite-turn : tie.After-opposite_turn-opposite = search in
    let at-shape-strips : tie.After-shape_strips-a = search in
    let at-shape-strips2 : tie.After-shape_strips-b = search in
    let at-grown-sides : tie.After-grown_sides-sides = search in
    let at-map-key : tie.After-map_key-key = search in
    let e = entry c in
    let l = lent e in
    let two = e.args.two in
    let z = at-grown-sides.grown_sides-sides.result in
    let asked = e.requires.0 in
    let sides = is at-grown-sides in
    map_found l _ _ two asked z sides _ _ _
    (moved_asked l _ _ two asked z sides _ at-opposite-turn.opposite_turn-opposite.ensures _ at-shape-strips.shape_strips-a.ensures).1
    (standing_asked l _ _ two asked z sides _ at-shape-strips2.shape_strips-b.ensures).1
    at-map-key.map_key-key.ensures.0 _ _ _ _ e.requires.1 refl c.keep_map-at.ensures

overflow_add-result : tie.Need-overflow_add-result
overflow_add-result c =
    let at-keep-map : tie.After-keep_map-at = search in
    let f = found at-keep-map in
    let within = f.map.within in
    let short = f.ready.short in
    omega arith

returns : tie.Need-returns
returns c = let at-keep-map : tie.After-keep_map-at = search in found at-keep-map

pub find_map_spec : {M : Type 1} → statement M
find_map_spec =
    tie.close (tie.spec
    (search rules) shape_strips-a-requires shape_strips-b-requires overflow_add-extra grown_sides-sides-requires map_key-key-requires
    map_slot-slot-requires (search rules) (search rules) (search rules) (search rules) keep_map-at-requires overflow_add-result (search rules) returns)
