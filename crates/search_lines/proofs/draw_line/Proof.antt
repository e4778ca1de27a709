-- `search_lines::draw_line` meets its contract: the part of the store has a byte for each place at which the boxes meet, and gets the penalties of
-- the two pieces from their map. Assumes nothing.
use Rattle.list_laws.proofs.Kit.{◌∙◌, ◌≡◌, sym, ◌+◌, ◌-◌, ◌<◌, ◌≤◌, ℕ, arith, drop, length, length-drop, length-take, take, rules}
use Rattle.model.specs.Lent.{Lent, lent_by}
use Rattle.model.specs.declared.Direction.TheVariants.{Horizontal}
use Rattle.search_maps.specs.Map.{sides_of, SidesFit, MapOf}
use Rattle.search_lines.specs.Making.{moved_shape, standing_shape}
use Rattle.search_lines.proofs.Making.{moved_entry, standing_entry, gap_few, sides_made, sides_byte, line_places_lem}
use Rattle.search_lines.proofs.Making.{found_within, found_map, found_bordered, made}
use Rattle.search_lines.proofs.draw_line.Statement.{statement}
use Rattle.search_lines.proofs.draw_line.Tie as tie

-- the lent job
abbrev lent : tie.Start → Lent
lent c = lent_by c.args.size c.args.table.now c.args.pixels.now

sides_of-sides-requires : tie.Need-sides_of-sides-requires
sides_of-sides-requires c κs =
    let at-start : tie.Start = search in
    let two = at-start.args.two in
    let asked = at-start.requires.0 in
    (moved_entry (lent at-start) _ _ two asked, standing_entry (lent at-start) _ _ two asked, gap_few (lent at-start) _ _ two asked)

-- the entry, from where the sides are known
abbrev entry : tie.After-sides_of-sides → tie.Start
entry c = search

-- the sides are those of the two pieces
is : (c : tie.After-sides_of-sides)
    → c.sides_of-sides.result
    ≡ sides_of Horizontal (moved_shape (lent (entry c)) (entry c).args.two) (standing_shape (lent (entry c)) (entry c).args.two)
is c = c.sides_of-sides.ensures (entry c).args.pixels.now

-- such as maps are made for
fit : (c : tie.After-sides_of-sides) → SidesFit c.sides_of-sides.result
fit c = sides_made (lent (entry c)) _ _ (entry c).args.two (entry c).requires.0 _ (is c)

find_map-from-requires : tie.Need-find_map-from-requires
find_map-from-requires c κs =
    let at-sides-of : tie.After-sides_of-sides = search in
    let e = entry at-sides-of in
    (e.requires.0, e.requires.1.1.1)

map_words-requires : tie.Need-map_words-requires
map_words-requires c κs =
    let at-sides-of : tie.After-sides_of-sides = search in
    fit at-sides-of

-- the map lies in the store
within : (c : tie.After-map_words)
    →
    let at-find-map : tie.After-find_map-from = search in
    (at-find-map.find_map-from.result + c.map_words.result ≤ length at-find-map.find_map-from.new.maps)
    × (length at-find-map.find_map-from.new.maps < 1000000000)
within c =
    let at-sides-of : tie.After-sides_of-sides = search in
    let at-find-map : tie.After-find_map-from = search in
    let e = entry at-sides-of in
    let f = at-find-map.find_map-from.ensures in
    (found_within (lent e) _ _ e.args.two e.requires.0 _ (is at-sides-of) _ _ _ _ f c.map_words.ensures, f.ready.short)

overflow_add-to : tie.Need-overflow_add-to
overflow_add-to c =
    let at-map-words : tie.After-map_words = search in
    let h = within at-map-words in omega arith

line_places-count-requires : tie.Need-line_places-count-requires
line_places-count-requires c κs =
    let at-sides-of : tie.After-sides_of-sides = search in
    fit at-sides-of

-- the line lies in the store
ends : (c : tie.After-line_places-count)
    →
    let at-start : tie.Start = search in
    (at-start.args.at + c.line_places-count.result ≤ length at-start.args.lines.now) × (length at-start.args.lines.now ≤ 524288)
ends c =
    let at-start : tie.Start = search in
    let at-sides-of : tie.After-sides_of-sides = search in
    let e = c.line_places-count.ensures in
    let p = line_places_lem (lent at-start) _ _ at-start.args.two at-start.requires.0 _ (is at-sides-of) at-start.args.direction in
    let room = at-start.requires.1.0 in
    (omega arith, at-start.requires.1.1.0)

overflow_add-end : tie.Need-overflow_add-end
overflow_add-end c = let at-line-places : tie.After-line_places-count = search in let h = ends at-line-places in omega arith

slice_bounds-map_line-end : tie.Need-slice_bounds-map_line-end
slice_bounds-map_line-end c = let at-map-words : tie.After-map_words = search in (within at-map-words).0

slice_bounds-map_line-end-2 : tie.Need-slice_bounds-map_line-end-2
slice_bounds-map_line-end-2 c = let at-line-places : tie.After-line_places-count = search in (ends at-line-places).0

-- where the map was found, and its words counted
abbrev found : tie.After-line_places-count → tie.After-find_map-from
found c = search

abbrev counted : tie.After-line_places-count → tie.After-map_words
counted c = search

-- the map, as it is lent
lent_map : (c : tie.After-line_places-count)
    →
    let at-start : tie.Start = search in
    let from = (found c).find_map-from.result in
    MapOf Horizontal (moved_shape (lent at-start) at-start.args.two) (standing_shape (lent at-start) at-start.args.two)
    (take (from + (counted c).map_words.result - from) (drop from (found c).find_map-from.new.maps))
lent_map c =
    let at-sides-of : tie.After-sides_of-sides = search in
    let e = entry at-sides-of in
    found_map (lent e) _ _ e.args.two e.requires.0 _ (is at-sides-of) _ _ _ _ (found c).find_map-from.ensures (counted c).map_words.ensures

map_line-requires : tie.Need-map_line-requires
map_line-requires c κs =
    let at-start : tie.Start = search in
    let at-sides-of : tie.After-sides_of-sides = search in
    let at-map-words : tie.After-map_words = search in
    let at-line-places : tie.After-line_places-count = search in
    let f = fit at-sides-of in
    let w = within at-map-words in
    let h = ends at-line-places in
    let e = at-line-places.line_places-count.ensures in
    let o = at-start.requires.0.offset in (
      f,
      (
        sides_byte (lent at-start) _ _ at-start.args.two at-start.requires.0 _ (is at-sides-of),
        (
          found_bordered (lent at-start) _ _ at-start.args.two at-start.requires.0 _ (is at-sides-of) _ _ _ _ (found at-line-places).find_map-from.ensures
              (counted at-line-places).map_words.ensures,
          (omega arith, sym (simp (length-take, length-drop) (omega arith))),
        ),
      ),
    )

returns : tie.Need-returns
returns c =
    let at-start : tie.Start = search in
    let at-sides-of : tie.After-sides_of-sides = search in
    let at-line-places : tie.After-line_places-count = search in
    let at-map-line : tie.After-map_line = search in
    let d = at-start.args.direction in
    let at = at-start.args.at in
    let h = ends at-line-places in
    let n : ℕ = at-line-places.line_places-count.result in (
      made (lent at-start) _ _ at-start.args.two at-start.requires.0 _ (is at-sides-of) d at-start.args.lines.now _ at (at + n - at)
          (let e = at-line-places.line_places-count.ensures in omega arith) (omega arith)
          (at-map-line.map_line.ensures _ _ (is at-sides-of) (lent_map at-line-places)),
      (
        (found at-line-places).find_map-from.ensures.ready,
        at-line-places.line_places-count.ensures ∙ line_places_lem (lent at-start) _ _ at-start.args.two at-start.requires.0 _ (is at-sides-of) d,
      ),
    )

pub draw_line_spec : {M : Type 1} → statement M
draw_line_spec =
    tie.close (tie.spec
    sides_of-sides-requires find_map-from-requires map_words-requires overflow_add-to line_places-count-requires overflow_add-end (search rules)
    (search rules) (search rules) slice_bounds-map_line-end (search rules) (search rules) slice_bounds-map_line-end-2 map_line-requires (search rules)
    (search rules) returns)
