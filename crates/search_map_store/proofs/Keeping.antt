-- One more map in the store, made elsewhere and copied where it is large: the maps before it are as they were. Assumes nothing.
use Rattle.list_laws.proofs.Kit.{◌∙◌, ◌≡◌, ap, refl, subst, subst₂, sym, List, ◌++◌, ◌*◌, ◌+◌, ◌/◌, ◌%◌, ◌<◌, ◌≤◌, ℕ, arith, get_or-append}
use Rattle.list_laws.proofs.Kit.{drop, get_or, length, length-append, length-drop, length-set, length-take, take, get_or-append-add, get_or-take, set}
use Rattle.list_laws.proofs.Kit.{get_or-set_other, get_or-set_same, length-take-le, ℕ_discrete}
use Rattle.model.specs.Piece.{Shape}
use Rattle.model.specs.declared.Direction.{Direction}
use Rattle.bit_laws.specs.Bit.{bit_at, bit_in}
use Rattle.bit_laws.proofs.Strings.{bit_alike, bit_in_lem, bit_part}
use Rattle.search_maps.specs.declared.Sides.{Sides}
use Rattle.search_maps.specs.Map.{sides_of, map_words, scratch_bound, map_bound, cell_place, SidesFit, MapOf}
use Rattle.search_maps.proofs.Fitting.{rows_small_lem, scratch_most}
use Rattle.search_maps.proofs.Shared.{cell_in}
use Rattle.search_map_store.specs.Store.{begin_limit, slot_word, end_of, room_words, Copied, MapAt, MapsBefore, MapsKept, Forgotten, RoomFor, Kept}

-- ── words of a map ──

-- no map has more words than the bound
pub map_most : (z : Sides) → SidesFit z → map_words z ≤ map_bound
map_most z f =
    let h = rows_small_lem z f (z.moved_across + z.standing_across + 1) (omega (arith, f.moved_across.high, f.standing_across.high)) in
    omega arith

-- none is made in more words than the largest scratch has
pub room_most : (z : Sides) → SidesFit z → room_words z ≤ scratch_bound
room_most z f = let m = map_most z f in let s = scratch_most z f in omega arith

-- words with the same bits hold the same map
map_same : (d : Direction) (s t : Shape) (ws vs : List ℕ) → map_words (sides_of d s t) ≤ length vs
    → ((p : ℕ) → p < map_words (sides_of d s t) * 64 → bit_in vs p ≡ bit_in ws p) → MapOf d s t ws → MapOf d s t vs
map_same d s t ws vs l e m =
    record {
      room = l;
      cells = λ X Y x y. e (cell_place (sides_of d s t) X Y) (cell_in (sides_of d s t) X Y (omega arith) (omega arith)) ∙ m.cells X Y x y;
      only = λ p h b. m.only p h (sym (e p h) ∙ b);
    }

-- a map whose words are copied is a map
pub map_copied : (z : Sides) (n : ℕ) (ws xs vs : List ℕ) → n ≡ map_words z → map_words z ≤ length xs → Copied n ws xs vs
    → (d : Direction) (s t : Shape) → z ≡ sides_of d s t → MapOf d s t ws → MapOf d s t vs
map_copied z n ws xs vs e l c d s t ez m =
    let k : n ≡ map_words (sides_of d s t) = e ∙ ap map_words ez in
    let q = c.same in
    map_same d s t ws vs (omega arith) (λ p h. bit_alike vs ws p (c.each (p / 64) (omega arith))) m

-- a map stands when a word before it is set
set_stands : (d : Direction) (s t : Shape) (ws : List ℕ) (i v a end : ℕ) → i < a → end ≤ length ws → MapAt d s t ws a end → MapAt d s t (set ws i v) a end
set_stands d s t ws i v a end l h m =
    let k : ℕ = map_words (sides_of d s t) in
    let w = m.within in
    let len : length (set ws i v) ≡ length ws = length-set ws i v in
    let there : length (take k (drop a (set ws i v))) ≡ k = simp (length-take, length-drop) (omega arith) in
    record {
      within = w;
      map = map_same d s t (take k (drop a ws)) (take k (drop a (set ws i v))) (omega arith)
          (λ p q.
          bit_part (set ws i v) a k p q
          ∙ bit_alike (set ws i v) ws (a * 64 + p) (get_or-set_other ws i ((a * 64 + p) / 64) v 0 (λ z. omega arith))
          ∙ sym (bit_part ws a k p q)) m.map;
    }

-- ── a part of the words, written anew ──

module _ (xs part : List ℕ) (at n : ℕ) (full : length part ≡ n) (room : at + n ≤ length xs) where
  -- the words with the part in the place of n words from `at` on
  abbrev put : List ℕ
  put = take at xs ++ (part ++ drop n (drop at xs))

  -- what stands before the part
  front : length (take at xs) ≡ at
  front = length-take-le at xs (omega arith)

  -- it is as long as it was
  pub put_length : length put ≡ length xs
  put_length = let f = front in simp (length-append, length-drop) (omega arith)

  -- a word before the part is as it was
  pub word_before : (i : ℕ) → i < at → get_or put i 0 ≡ get_or xs i 0
  word_before i l =
      let f = front in
      get_or-append (take at xs) (part ++ drop n (drop at xs)) 0 i (omega arith) ∙ get_or-take at xs i 0 l

  -- a bit before the part is as it was
  pub bit_before : (p : ℕ) → p < at * 64 → bit_in put p ≡ bit_in xs p
  bit_before p l =
      bit_alike put xs p (word_before (p / 64) (omega arith))

  -- a bit of the part is the part's
  pub bit_inside : (p : ℕ) → p < n * 64 → bit_in put (at * 64 + p) ≡ bit_in part p
  bit_inside p l =
      let e : at + p / 64 ≡ length (take at xs) + p / 64 = (let f = front in omega arith) in
      let g : get_or put (at + p / 64) 0 ≡ get_or part (p / 64) 0 =
      ap (λ (m : ℕ). get_or put m 0) e ∙ get_or-append-add (take at xs) (part ++ drop n (drop at xs)) (p / 64) 0
      ∙ get_or-append part (drop n (drop at xs)) 0 (p / 64) (omega arith) in
      bit_in_lem put (at + p / 64) (p % 64) (at * 64 + p) (omega arith) (omega arith)
      ∙ ap (λ (x : ℕ). bit_at x (p % 64)) g ∙ sym (bit_in_lem part (p / 64) (p % 64) p (omega arith) (omega arith))

  -- a map before the part stands
  pub before_stands : (d : Direction) (s t : Shape) (a end : ℕ) → end ≤ at → MapAt d s t xs a end → (end' : ℕ) → end ≤ end' → MapAt d s t put a end'
  before_stands d s t a end l m end' l' =
      let k : ℕ = map_words (sides_of d s t) in
      let w = m.within in
      let len = put_length in
      let there : length (take k (drop a put)) ≡ k = simp (length-take, length-drop) (omega arith) in
      record {
        within = omega arith;
        map = map_same d s t (take k (drop a xs)) (take k (drop a put)) (omega arith)
            (λ p h. bit_part put a k p h ∙ bit_before (a * 64 + p) (omega arith) ∙ sym (bit_part xs a k p h)) m.map;
      }

  -- a map at the front of the part stands
  pub part_stands : (d : Direction) (s t : Shape) (k : ℕ) → k ≡ map_words (sides_of d s t) → k ≤ n → MapOf d s t part → MapAt d s t put at (at + k)
  part_stands d s t k e l m =
      let w : ℕ = map_words (sides_of d s t) in
      let len = put_length in
      let there : length (take w (drop at put)) ≡ w = simp (length-take, length-drop) (omega arith) in
      record {
        within = omega arith;
        map = map_same d s t part (take w (drop at put)) (omega arith) (λ p h. bit_part put at w p h ∙ bit_inside p (omega arith)) m;
      }

-- ── slots ──

-- where no slot has a key, no map is kept
none_before_lem : (slots : ℕ) (xs ys : List ℕ) → Forgotten slots xs ys → (d : ℕ → Direction) (s t : ℕ → Shape) (end : ℕ) → MapsBefore slots d s t ys end
none_before_lem slots xs ys g d s t end m key at l h e = let z = g.none m l in absurd (omega arith)

-- room after the others
pub room_after : (slots n : ℕ) (xs : List ℕ) → slots + 1 ≤ end_of slots xs → end_of slots xs + n ≤ length xs → RoomFor slots n xs xs (end_of slots xs)
room_after slots n xs o l = record { same = refl; low = o; fits = l; kept = λ d s t k. k.each }

-- room with the others forgotten
pub room_first : (slots n : ℕ) (xs ys : List ℕ) → slots + 1 + n ≤ length xs → Forgotten slots xs ys → RoomFor slots n xs ys (slots + 1)
room_first slots n xs ys l g =
    record { same = g.same; low = omega arith; fits = l; kept = λ d s t k. none_before_lem slots xs ys g d s t (slots + 1) }

-- ── one more map ──

module _ (slots : ℕ) (d : ℕ → Direction) (s t : ℕ → Shape) (z : Sides) (key slot : ℕ) (words ys part : List ℕ) (at n k m : ℕ)
    (ez : z ≡ sides_of (d key) (s key) (t key)) (map : MapOf (d key) (s key) (t key) part) (size : n ≡ map_words z) (wide : n ≤ k) (same : m ≡ k)
    (full : length part ≡ m) (room : RoomFor slots k words ys at) (there : slot < slots) (small : at < begin_limit)
  where
    -- the part lies in the words
    fits : at + m ≤ length ys
    fits = let f = room.fits in let r = room.same in omega arith

    -- the words with the map in its part
    abbrev put' : List ℕ
    put' = take at ys ++ (part ++ drop m (drop at ys))

    -- with its slot
    abbrev told : List ℕ
    told = set put' slot (slot_word key at)

    -- and with the end
    abbrev words' : List ℕ
    words' = set told slots (at + n)

    -- each of these is as long as the words were
    put_same : length put' ≡ length ys
    put_same = put_length ys part at m full fits

    told_same : length told ≡ length ys
    told_same = length-set put' slot (slot_word key at) ∙ put_same

    all_same : length words' ≡ length words
    all_same = length-set told slots (at + n) ∙ told_same ∙ room.same

    -- the end is past the map
    end_is : end_of slots words' ≡ at + n
    end_is = let e = told_same in let f = fits in let l = room.low in get_or-set_same told slots (at + n) 0 (omega arith)

    -- the slots are those before the end was written
    slot_at : (i : ℕ) → i < slots → get_or words' i 0 ≡ get_or told i 0
    slot_at i l = get_or-set_other told slots i (at + n) 0 (λ e. omega arith)

    -- a map of the part's words stands past the slots
    stands : (k a end : ℕ) → slots + 1 ≤ a → end ≤ length ys → MapAt (d k) (s k) (t k) put' a end → MapAt (d k) (s k) (t k) words' a end
    stands k a end l h p =
        let e = put_same in
        let f = told_same in
        set_stands (d k) (s k) (t k) told slots (at + n) a end (omega arith) (omega arith)
        (set_stands (d k) (s k) (t k) put' slot (slot_word key at) a end (omega arith) (omega arith) p)

    -- the map of the key stands in its part
    new : MapAt (d key) (s key) (t key) words' at (at + n)
    new =
        let f = fits in
        stands key at (at + n) room.low (omega arith)
        (part_stands ys part at m full fits (d key) (s key) (t key) n (size ∙ ap map_words ez) (omega arith) map)

    -- the key has its map, and the other maps are as they were
    pub added : Kept slots d s t key words words' at
    added =
        record {
          same = all_same;
          right = λ old. (
            record {
              low = let e = end_is in let l = room.low in omega arith;
              high = let e = end_is in let f = fits in let w = all_same in let r = room.same in omega arith;
              each = λ i k a l h e. go old i k a l h e (ℕ_discrete i slot);
            },
            subst (MapAt (d key) (s key) (t key) words' at) (sym end_is) new,
          );
        }
      where
        go : MapsKept slots d s t words → (i k a : ℕ) → i < slots → a < begin_limit → get_or words' i 0 ≡ slot_word k a → Dec (i ≡ slot)
            → (slots + 1 ≤ a) × MapAt (d k) (s k) (t k) words' a (end_of slots words')
        go old i k a l h e (yes q) =
            let e₁ = put_same in
            let f₁ = fits in
            let l₁ = room.low in
            let x : get_or told i 0 ≡ slot_word key at = ap (λ (j : ℕ). get_or told j 0) q ∙ get_or-set_same put' slot (slot_word key at) 0 (omega arith) in
            let y : slot_word k a ≡ slot_word key at = sym e ∙ slot_at i l ∙ x in
            let ek : key ≡ k = omega arith in
            let ea : at ≡ a = omega arith in (
              (let r = room.low in omega arith),
              subst₂ (λ (k₁ a₁ : ℕ). MapAt (d k₁) (s k₁) (t k₁) words' a₁ (end_of slots words')) ek ea
                  (subst (MapAt (d key) (s key) (t key) words' at) (sym end_is) new),
            )
        go old i k a l h e (no q) =
            let r = room.low in
            let f = fits in
            let x : get_or ys i 0 ≡ slot_word k a =
            sym (word_before ys part at m full fits i (omega arith)) ∙ sym (get_or-set_other put' slot i (slot_word key at) 0 q) ∙ sym (slot_at i l) ∙ e in
            let b = room.kept d s t old i k a l h x in (
              b.0,
              subst (MapAt (d k) (s k) (t k) words' a) (sym end_is)
                  (stands k a (at + n) b.0 (omega arith)
                  (before_stands ys part at m full fits (d k) (s k) (t k) a at (omega arith) b.1 (at + n) (omega arith))),
            )

-- a map that is kept
pub found : (slots : ℕ) (d : ℕ → Direction) (s t : ℕ → Shape) (key slot : ℕ) (words : List ℕ) → slot < slots → get_or words slot 0 / begin_limit ≡ key + 1
    → Kept slots d s t key words words (get_or words slot 0 % begin_limit)
found slots d s t key slot words l h =
    let x : ℕ = get_or words slot 0 in
    let b : x % begin_limit < begin_limit = omega arith in
    let e : x ≡ slot_word key (x % begin_limit) = omega arith in
    record { same = refl; right = λ old. (old, (old.each slot key (x % begin_limit) l b e).1) }

-- a store whose maps are forgotten keeps none
pub none_kept : (slots : ℕ) (d : ℕ → Direction) (s t : ℕ → Shape) (xs ys : List ℕ) → slots < length xs → Forgotten slots xs ys → MapsKept slots d s t ys
none_kept slots d s t xs ys l g =
    let e = g.end in
    let q = g.same in
    record { low = omega arith; high = omega arith; each = none_before_lem slots xs ys g d s t (end_of slots ys) }
