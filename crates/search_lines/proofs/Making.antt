-- One line, made in its part of the store: what its making asks of the two pieces' strips, and what the store holds then. Assumes nothing.
use Rattle.list_laws.proofs.Kit.{◌∙◌, ◌≡◌, ap, subst, sym, List, ◌++◌, ◌+◌, ◌-◌, ◌<◌, ◌≤◌, ℕ, arith, drop, drop-drop, get_or, length, length-drop}
use Rattle.list_laws.proofs.Kit.{length-take, take}
use Rattle.model.specs.Piece.{Shape, turned}
use Rattle.model.specs.Layout.{Job, turned_piece}
use Rattle.model.specs.Lent.{Lent, job_of, gap_bound}
use Rattle.model.specs.declared.Direction.{Direction}
use Rattle.model.specs.declared.Direction.TheVariants.{Horizontal, Vertical}
use Rattle.model.specs.declared.Turn.{Turn}
use Rattle.model.specs.declared.Turn.TheVariants.{Half}
use Rattle.job_laws.proofs.Checked.{facts, lent_few, lent_gap}
use Rattle.overlap_laws.specs.Grown.{grown}
use Rattle.pair_overlap.specs.Seen.{entries}
use Rattle.bit_laws.specs.Bit.{length_limit}
use Rattle.search_shapes.specs.Shapes.{shape_number, Held, Shapes, StripsOf}
use Rattle.search_maps.specs.declared.Sides.{Sides}
use Rattle.search_maps.specs.Map.{opposite, sides_of, columns_of, rows_of, map_words, SidesFit, StripsIn, MovedIn, MapOf}
use Rattle.search_map_lines.specs.Line.{Bordered, ByteSides, LineOf, places_of}
use Rattle.search_map_lines.proofs.Grid.{map_bordered}
use Rattle.search_map_store.specs.Store.{end_of, all_grown, MapAt, StoreFits, Kept}
use Rattle.search_map_store.proofs.Keeping.{room_most}
use Rattle.search_map_laws.specs.Keys.{direction_of, first_of, moved_of, standing_of}
use Rattle.search_map_laws.proofs.Grown.{words_grown, map_grown}
use Rattle.search_map_laws.proofs.Keys.{first_back_lem, standing_back}
use Rattle.search_map_laws.proofs.Pieces.{sides_fit, making_fit, byte_sides, moved_entries, moved_in, standing_entries, standing_in}
use Rattle.search_lines.specs.declared.Two.{Two}
use Rattle.search_laws.specs.Lines.{line_places}
use Rattle.search_lines.specs.Kept.{class_words, map_slots, MapsReady}
use Rattle.search_lines.specs.Making.{moved_shape, standing_shape, map_key_of_two, SmallTwo, Asked, MapFound, LineMade}
use Rattle.search_lines.proofs.Parts.{put_before, put_in, put_after, put_length, rest_lent, rest_is, ready_again}

-- ── two pieces of a job ──

module _ (l : Lent) (store : List (List ℕ)) (starts : List ℕ) (two : Two) (asked : Asked l store starts two) where
  pub moved_there : two.moved < (job_of l).size.count
  unfolding job_of
  moved_there = asked.moved

  pub standing_there : two.standing < (job_of l).size.count
  unfolding job_of
  standing_there = asked.standing

  -- the numbers have room in a key
  pub small_two : SmallTwo two
  small_two =
      let f = lent_few l asked.well in
      let m = moved_there in
      let s = standing_there in
      record { moved = omega arith; standing = omega arith; offset = asked.offset }

  -- the entries of both are in the table
  pub moved_entry : two.moved < length l.table
  moved_entry = let m = asked.moved in let f = (facts l asked.well).entries in omega arith

  pub standing_entry : two.standing < length l.table
  standing_entry = let m = asked.standing in let f = (facts l asked.well).entries in omega arith

  -- the strips of both are in the store, in any turn
  pub moved_held : (t : Turn) → Held store starts (shape_number two.moved t)
  moved_held t = (asked.shapes.at two.moved t moved_there).held

  pub standing_held : Held store starts (shape_number two.standing two.standing_turn)
  standing_held = (asked.shapes.at two.standing two.standing_turn standing_there).held

  -- the gap is small
  pub gap_few : l.size.gap ≤ gap_bound
  gap_few = (facts l asked.well).small_gap

  -- ── the map, as it is made ──

  -- the two pieces in their turns
  abbrev first : Shape
  first = turned_piece (job_of l) two.moved two.moved_turn

  abbrev second : Shape
  second = turned_piece (job_of l) two.standing two.standing_turn

  -- twice the gap
  abbrev twice : ℕ
  twice = (job_of l).size.gap + (job_of l).size.gap

  module _ (z : Sides) (is : z ≡ sides_of Horizontal (grown twice first) second) where
    -- the sides are such as maps are made for
    pub making_made : SidesFit z
    making_made =
        subst SidesFit (sym is)
        (making_fit l asked.well two.moved two.standing two.moved_turn two.standing_turn moved_there standing_there)

    -- the store has room to make the map
    pub store_fits_lem : (key slot : ℕ) → key < 65536 → slot < map_slots → (maps : List ℕ) (n : ℕ) → n ≡ length maps - class_words → MapsReady (job_of l) maps
        → StoreFits z key slot map_slots (take n (drop class_words maps))
    store_fits_lem key slot small there maps n rest m =
        let h = room_most z making_made in
        let room = m.room in
        let short = m.short in
        let long : length (drop class_words maps) ≡ length maps - class_words = length-drop class_words maps in
        subst (StoreFits z key slot map_slots) (sym (rest_lent maps n rest))
        (record { slot_in = there; few = omega arith; end = m.kept.low; room = omega arith; short = omega arith })

    -- the moved piece's strips in the opposite turn are those that a map is made from
    pub moved_asked : (u : Turn) → u ≡ opposite two.moved_turn → (es : List (List ℕ))
        → ((e : Direction) (j : Job) → Shapes e j store starts → two.moved < j.size.count → StripsOf e (turned_piece j two.moved u) es)
        → MovedIn z twice es × (es ≡ entries Horizontal (turned Half first))
    moved_asked u e es told =
        let s : Shape = ((job_of l).piece two.moved).shape in
        let h : StripsOf Horizontal (turned (opposite two.moved_turn) s) es =
        subst (λ (t : Turn). StripsOf Horizontal (turned t s) es) e (told Horizontal (job_of l) asked.shapes moved_there) in (
          subst (λ (y : Sides). MovedIn y twice es) (sym is)
              (moved_in Horizontal two.moved_turn s es second twice (omega (arith, lent_gap l asked.well)) h),
          moved_entries Horizontal two.moved_turn s es h,
        )

    -- so are the standing one's in its turn
    pub standing_asked : (es : List (List ℕ))
        → ((e : Direction) (j : Job) → Shapes e j store starts → two.standing < j.size.count
        → StripsOf e (turned_piece j two.standing two.standing_turn) es)
        → StripsIn z.standing_along z.standing_across es × (es ≡ entries Horizontal second)
    standing_asked es told =
        let s : Shape = ((job_of l).piece two.standing).shape in
        let h = told Horizontal (job_of l) asked.shapes standing_there in (
          subst (λ (y : Sides). StripsIn y.standing_along y.standing_across es) (sym is) (standing_in Horizontal two.standing_turn s es h),
          standing_entries Horizontal two.standing_turn s es h,
        )

    module _ (es fs : List (List ℕ)) (key : ℕ) (marks : es ≡ entries Horizontal (turned Half first)) (added : fs ≡ entries Horizontal second)
        (keyed : key ≡ map_key_of_two two) where
      -- the key's pieces are these
      first_is : first_of (job_of l) key ≡ first
      first_is =
          ap (first_of (job_of l)) keyed
          ∙ first_back_lem (job_of l) two.moved two.moved_turn two.standing two.standing_turn small_two.moved small_two.standing

      standing_is : standing_of (job_of l) key ≡ second
      standing_is =
          ap (standing_of (job_of l)) keyed
          ∙ standing_back (job_of l) two.moved two.moved_turn two.standing two.standing_turn small_two.moved small_two.standing

      -- what is asked of two shapes
      abbrev Fits : Shape → Shape → Type 0
      Fits s t = (z ≡ sides_of Horizontal (grown twice s) t) × (es ≡ entries Horizontal (turned Half s)) × (fs ≡ entries Horizontal t)

      fits : Fits (first_of (job_of l) key) (standing_of (job_of l) key)
      fits =
          subst (λ (s : Shape). Fits s (standing_of (job_of l) key)) (sym first_is)
          (subst (λ (t : Shape). Fits first t) (sym standing_is) (is, marks, added))

      module _ (maps part : List ℕ) (n r : ℕ) (m : MapsReady (job_of l) maps) (rest : n ≡ length maps - class_words)
          (told : (e : ℕ → Direction) (s t : ℕ → Shape) → z ≡ sides_of (e key) (grown twice (s key)) (t key) → es ≡ entries (e key) (turned Half (s key))
          → fs ≡ entries (e key) (t key) → Kept map_slots e (all_grown twice s) t key (take n (drop class_words maps)) part r)
        where
          -- what the call tells of the words past the classes
          kept : Kept map_slots direction_of (moved_of (job_of l)) (standing_of (job_of l)) key (drop class_words maps) part r
          kept =
              subst (λ (ws : List ℕ). Kept map_slots direction_of (moved_of (job_of l)) (standing_of (job_of l)) key ws part r) (rest_lent maps n rest)
              (told direction_of (first_of (job_of l)) (standing_of (job_of l)) fits.0 fits.1 fits.2)

          -- they are as many as before
          part_full : length part ≡ n
          part_full = let room = m.room in kept.same ∙ simp length-drop (omega arith)

          -- each piece has a class
          few : (job_of l).size.count ≤ class_words
          few = lent_few l asked.well

          -- the slice with the part in its place
          abbrev new : List ℕ
          new = take class_words maps ++ (part ++ drop n (drop class_words maps))

          new_same : length new ≡ length maps
          new_same = let room = m.room in put_length maps part class_words n part_full (omega arith)

          -- the map, counted from the classes' end
          found : MapAt Horizontal (grown twice first) second part r (end_of map_slots part)
          found =
              subst (λ (t : Shape). MapAt Horizontal (grown twice first) t part r (end_of map_slots part)) standing_is
              (subst (λ (s : Shape). MapAt Horizontal (grown twice s) (standing_of (job_of l) key) part r (end_of map_slots part)) first_is
              (kept.right m.kept).1)

          -- it is the map of both pieces grown by the gap
          words_both : map_words (sides_of Horizontal (grown twice first) second) ≡ map_words (sides_of Horizontal (moved_shape l two) (standing_shape l two))
          words_both =
              words_grown (job_of l).size.gap ((job_of l).piece two.moved).shape ((job_of l).piece two.standing).shape two.moved_turn
              two.standing_turn

          map_both : (ws : List ℕ) → MapOf Horizontal (grown twice first) second ws → MapOf Horizontal (moved_shape l two) (standing_shape l two) ws
          map_both =
              map_grown (job_of l).size.gap ((job_of l).piece two.moved).shape ((job_of l).piece two.standing).shape two.moved_turn
              two.standing_turn

          -- the map that a call finds, past the classes
          pub map_found : MapFound (job_of l) (moved_shape l two) (standing_shape l two) maps new (class_words + r)
          map_found =
              let k : ℕ = map_words (sides_of Horizontal (grown twice first) second) in
              let w = found.within in
              let h = (kept.right m.kept).0.high in
              let f = part_full in
              let room = m.room in
              let e : drop r part ≡ drop (class_words + r) new =
              ap (drop r) (sym (rest_is (job_of l) maps part n rest part_full few m.classes m.room m.short)) ∙ drop-drop r class_words new in
              record {
                same = new_same;
                ready = ready_again (job_of l) maps part n rest part_full few m.classes m.room m.short (kept.right m.kept).0;
                map = record {
                  within = let s = new_same in let b = words_both in omega arith;
                  map = subst (λ (c : ℕ). MapOf Horizontal (moved_shape l two) (standing_shape l two) (take c (drop (class_words + r) new))) words_both
                      (map_both _ (subst (λ (ws : List ℕ). MapOf Horizontal (grown twice first) second (take k ws)) e found.map));
                };
              }

  -- ── the line, as it is read ──

  module _ (z : Sides) (is : z ≡ sides_of Horizontal (moved_shape l two) (standing_shape l two)) where
    -- the grown sides are such as maps are made for
    pub sides_made : SidesFit z
    sides_made =
        subst SidesFit (sym is)
        (sides_fit l asked.well two.moved two.standing two.moved_turn two.standing_turn moved_there standing_there)

    -- and every penalty fits a byte
    pub sides_byte : ByteSides z
    sides_byte =
        subst ByteSides (sym is)
        (byte_sides l asked.well two.moved two.standing two.moved_turn two.standing_turn moved_there standing_there
        asked.small)

    -- a line has as many places as a row or a column of the map has cells
    pub line_places_lem : (d : Direction) → places_of d z ≡ line_places d (moved_shape l two) (standing_shape l two)
    line_places_lem Horizontal = ap columns_of is
    line_places_lem Vertical = ap rows_of is

    module _ (maps new : List ℕ) (r n : ℕ) (f : MapFound (job_of l) (moved_shape l two) (standing_shape l two) maps new r) (long : n ≡ map_words z) where
      words_are : n ≡ map_words (sides_of Horizontal (moved_shape l two) (standing_shape l two))
      words_are = long ∙ ap map_words is

      -- the map that was found lies in the store
      pub found_within : r + n ≤ length new
      found_within = let w = f.map.within in let e = words_are in omega arith

      -- as it is lent
      pub found_map : MapOf Horizontal (moved_shape l two) (standing_shape l two) (take (r + n - r) (drop r new))
      found_map =
          let e : map_words (sides_of Horizontal (moved_shape l two) (standing_shape l two)) ≡ r + n - r = (let w = words_are in omega arith) in
          subst (λ (k : ℕ). MapOf Horizontal (moved_shape l two) (standing_shape l two) (take k (drop r new))) e f.map.map

      -- with a clear row before its cells and one after them
      pub found_bordered : Bordered z (take (r + n - r) (drop r new))
      found_bordered =
          let short = f.ready.short in
          let h : length (take (r + n - r) (drop r new)) < length_limit = simp (length-take, length-drop) (omega arith) in
          subst (λ (y : Sides). Bordered y (take (r + n - r) (drop r new))) (sym is)
          (map_bordered Horizontal (moved_shape l two) (standing_shape l two) (take (r + n - r) (drop r new)) found_map (subst SidesFit is sides_made) h)

    -- the store with the line in its part
    pub made : (d : Direction) (lines part : List ℕ) (at n : ℕ) → n ≡ places_of d z → at + n ≤ length lines
        → LineOf d (moved_shape l two) (standing_shape l two) two.offset (take n (drop at lines)) part
        → LineMade d (moved_shape l two) (standing_shape l two) two.offset lines at (take at lines ++ (part ++ drop n (drop at lines)))
    made d lines part at n e room line =
        let p : n ≡ line_places d (moved_shape l two) (standing_shape l two) = e ∙ line_places_lem d in
        let long : length (take n (drop at lines)) ≡ n = simp (length-take, length-drop) (omega arith) in
        let full : length part ≡ n = line.same ∙ long in
        record {
          same = put_length lines part at n full room;
          line = λ k h.
              let z : 0 + k ≡ k = omega arith in
              put_in lines part at n full room k (omega arith) ∙ ap (λ (i : ℕ). get_or part i 0) (sym z) ∙ line.line k h;
          before = put_before lines part at n full room;
          after = λ k h. put_after lines part at n full room k (omega arith);
        }
