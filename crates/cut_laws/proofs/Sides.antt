-- Document 02, point 2: the sides of a layout are the units between a pixel of a piece and a pixel that is not of the same piece, or the
-- sheet's outside; they do not depend on the pieces' numbers. A piece that lies inside has no pixel outside the sheet, so that the test
-- of the definition, one of the two places beside a unit and not the other, is what the request says in words. Assumes nothing.
use Rattle.list_laws.proofs.Kit.{◌∙◌, ◌≡◌, ap, ap₂, refl, subst, sym, Bool, false, true, false≢true, ◌≢◌, ◌⊎◌, inl, inr, ◌+◌, ◌<◌, ◌≤◌, suc, zero, ℕ}
use Rattle.list_laws.proofs.Kit.{◌&&◌, arith, leb, leb-true, ltb, ltb-true, ◌↔◌}
use Rattle.list_laws.proofs.Tests.{and_left, and_right, clash, fails, same_tests}
use Rattle.list_laws.proofs.Bounded.{any_witness, any_from}
use Rattle.strip_laws.specs.Boxes.{InBox, SameShape}
use Rattle.strip_laws.proofs.Boxes.{along_point, across_point, point_again, pixel_in_box, box_along, box_across, pixel_point}
use Rattle.overlap_laws.proofs.Share.{Covered, covers_witness, covers_from, PixelOf, pixel_facts}
use Rattle.model.specs.Bounded.{any_below}
use Rattle.model.specs.Piece.{Point, Piece, pixel, turned, corner, covers, along, across, point, extent, other, cell}
use Rattle.model.specs.Layout.{Job, Layout, sheet_extent, place_of, inside, shape_in, corner_in}
use Rattle.model.specs.Cut.{differ, covers_in, side_of, set_along, sides}
use Rattle.model.specs.declared.Direction.{Direction}
use Rattle.model.specs.declared.Direction.TheVariants.{Horizontal, Vertical}
use Rattle.model.specs.declared.Placement.{Placement}
use Rattle.descent_laws.specs.Claims.{ValidLayout}
use Rattle.cut_laws.specs.Sides.{IsSheetPixel, HasPixel, BesideUnit, SideBetween, Renumbered}

-- ── sets of units ──

-- the box of a set along the direction, and across it
pub set_along_lem : (d : Direction) (l w : ℕ) (f : ℕ → ℕ → Bool) → extent d (set_along d l w f) ≡ l
set_along_lem Horizontal l w f = refl
set_along_lem Vertical l w f = refl

pub set_across : (d : Direction) (l w : ℕ) (f : ℕ → ℕ → Bool) → extent (other d) (set_along d l w f) ≡ w
set_across Horizontal l w f = refl
set_across Vertical l w f = refl

-- its test
pub set_cell : (d : Direction) (l w : ℕ) (f : ℕ → ℕ → Bool) (a c : ℕ) → cell d (set_along d l w f) a c ≡ f a c
set_cell Horizontal l w f a c = refl
set_cell Vertical l w f a c = refl

-- a unit inside the box is in the set exactly as the test says
set_pixel : (d : Direction) (l w : ℕ) (f : ℕ → ℕ → Bool) (a c : ℕ) → a < l → c < w → pixel (set_along d l w f) (point d a c) ≡ f a c
set_pixel d l w f a c h k =
    let e = set_along_lem d l w f in
    let g = set_across d l w f in
    pixel_point d (set_along d l w f) a c (omega arith) (omega arith) ∙ set_cell d l w f a c

-- a unit of the set lies inside the box
set_within : (d : Direction) (l w : ℕ) (f : ℕ → ℕ → Bool) (a c : ℕ) → pixel (set_along d l w f) (point d a c) ≡ true → (a < l) × (c < w)
set_within d l w f a c h =
    let b : InBox (set_along d l w f) (point d a c) = pixel_in_box (set_along d l w f) (point d a c) h in
    let p = box_along d (set_along d l w f) (point d a c) b in
    let q = box_across d (set_along d l w f) (point d a c) b in
    let e = set_along_lem d l w f in
    let g = set_across d l w f in
    let s = along_point d a c in
    let t = across_point d a c in
    (omega arith, omega arith)

-- a pixel's test, where the two tests agree inside the box
pixel_agree : (x y l w : ℕ) (b b' : Bool) → (x < l → y < w → b ≡ b') → (ltb x l && ltb y w && b) ≡ (ltb x l && ltb y w && b')
pixel_agree x y l w b b' h = by_tests (ltb x l) (ltb y w) refl refl
  where
    by_tests : (p q : Bool) → ltb x l ≡ p → ltb y w ≡ q → (p && q && b) ≡ (p && q && b')
    by_tests true true e f = h (ltb-true x l e) (ltb-true y w f)
    by_tests true false e f = refl
    by_tests false q e f = refl

-- sets with the same box whose tests agree inside it
pub same_set : (d : Direction) (l l' w w' : ℕ) (f f' : ℕ → ℕ → Bool) → l ≡ l' → w ≡ w' → ((a c : ℕ) → a < l → c < w → f a c ≡ f' a c)
    → SameShape (set_along d l w f) (set_along d l' w' f')
same_set Horizontal l l' w w' f f' e g h =
    record {
      columns = e;
      rows = g;
      pixels = λ p. pixel_agree p.x p.y l w (f p.x p.y) (f' p.x p.y) (h p.x p.y) ∙ rw (e, g);
    }
same_set Vertical l l' w w' f f' e g h =
    record {
      columns = g;
      rows = e;
      pixels = λ p. pixel_agree p.x p.y w l (f p.y p.x) (f' p.y p.x) (λ s t. h p.y p.x t s) ∙ rw (e, g);
    }

-- ── pixels of pieces ──

-- where the test says that a piece lies on a place, it has a pixel there
pub lies_pixel : (j : Job) (v : Layout) (i : ℕ) (p : Point) → covers_in j v i p ≡ true → HasPixel j v i p
lies_pixel j v i p e =
    let w : Covered (shape_in j v i) (corner_in v i) p = covers_witness (shape_in j v i) (corner_in v i) p e in
    record { from = w.pixel_at; is_pixel = w.is_pixel; column = w.column; row = w.row }

-- and the other way round
pixel_lies : (j : Job) (v : Layout) (i : ℕ) (p : Point) → HasPixel j v i p → covers_in j v i p ≡ true
pixel_lies j v i p w =
    covers_from (shape_in j v i) (corner_in v i) p record { pixel_at = w.from; is_pixel = w.is_pixel; column = w.column; row = w.row }

-- a pixel of a piece inside the sheet is on the sheet
pub pixel_on_sheet : (j : Job) (v : Layout) → ValidLayout j v → (i : ℕ) → i < j.size.count → (p : Point) → HasPixel j v i p → IsSheetPixel j p
unfolding inside
pixel_on_sheet j v within i l p w =
    let box : PixelOf (shape_in j v i) w.from = pixel_facts (shape_in j v i) w.from w.is_pixel in
    let columns : (corner_in v i).x + (shape_in j v i).columns ≤ j.size.columns = leb-true _ _ (and_left _ _ (within.inside_sheet i l)) in
    let rows : (corner_in v i).y + (shape_in j v i).rows ≤ j.size.rows =
    leb-true _ _ (and_right (leb ((corner_in v i).x + (shape_in j v i).columns) j.size.columns) _ (within.inside_sheet i l)) in
    let a = box.column in
    let b = box.row in
    let e = w.column in
    let f = w.row in
    record { column = omega arith; row = omega arith }

-- a pixel of the sheet by its coordinates along and across
sheet_along : (d : Direction) (j : Job) (p : Point) → IsSheetPixel j p → (along d p < sheet_extent d j) × (across d p < sheet_extent (other d) j)
sheet_along Horizontal j p h = (h.column, h.row)
sheet_along Vertical j p h = (h.row, h.column)

-- ── from the test to the words ──

-- the places beside a unit
beside_after : (d : Direction) (a c : ℕ) → BesideUnit d a c (point d a c)
beside_after d a c = (along_point d a c, inl (across_point d a c))

beside_before : (d : Direction) (a c : ℕ) → BesideUnit d a (suc c) (point d a c)
beside_before d a c = (along_point d a c, inr (ap suc (across_point d a c)))

-- a place with these coordinates
place_is : (d : Direction) (a c : ℕ) (q : Point) → along d q ≡ a → across d q ≡ c → q ≡ point d a c
place_is d a c q e f = sym (point_again d q) ∙ ap₂ (point d) e f

-- no other place but the two is beside the unit
beyond_after : (d : Direction) (a c : ℕ) (q : Point) → BesideUnit d a (suc c) q → q ≢ point d a (suc c) → q ≡ point d a c
beyond_after d a c q (e, inl f) n = absurd (n (place_is d a (suc c) q e f))
beyond_after d a c q (e, inr f) n = place_is d a c q e (omega arith)

beyond_before : (d : Direction) (a c : ℕ) (q : Point) → BesideUnit d a (suc c) q → q ≢ point d a c → q ≡ point d a (suc c)
beyond_before d a c q (e, inl f) n = place_is d a (suc c) q e f
beyond_before d a c q (e, inr f) n = absurd (n (place_is d a c q e (omega arith)))

beyond_first : (d : Direction) (a : ℕ) (q : Point) → BesideUnit d a 0 q → q ≢ point d a 0 → ⊥
beyond_first d a q (e, inl f) n = n (place_is d a 0 q e f)
beyond_first d a q (e, inr f) n = omega arith

module _ (d : Direction) (j : Job) (v : Layout) where
  -- a piece that does not lie on a place has no pixel there
  none_there : (i : ℕ) (p q : Point) → covers_in j v i p ≡ false → q ≡ p → HasPixel j v i q → ⊥
  none_there i p q e f w = clash (pixel_lies j v i p (subst (HasPixel j v i) f w)) e

  -- by what the test says of the two places
  side_step : (i a c : ℕ) → i < j.size.count → (b b' : Bool) → covers_in j v i (point d a c) ≡ b → covers_in j v i (point d a (suc c)) ≡ b'
      → differ b b' ≡ true → SideBetween d j v a (suc c)
  side_step i a c l true false e e' h =
      record {
        piece = i;
        there = l;
        place = point d a c;
        beside = beside_before d a c;
        own = lies_pixel j v i (point d a c) e;
        beyond = λ q s n. inl (none_there i (point d a (suc c)) q e' (beyond_before d a c q s n));
      }
  side_step i a c l false true e e' h =
      record {
        piece = i;
        there = l;
        place = point d a (suc c);
        beside = beside_after d a (suc c);
        own = lies_pixel j v i (point d a (suc c)) e';
        beyond = λ q s n. inl (none_there i (point d a c) q e (beyond_after d a c q s n));
      }
  side_step i a c l true true e e' h = absurd (false≢true h)
  side_step i a c l false false e e' h = absurd (false≢true h)

  -- a side of piece i is a side in words
  side_words : (i a c : ℕ) → i < j.size.count → side_of d j v i a c ≡ true → SideBetween d j v a c
  unfolding side_of
  side_words i a zero l h =
      record {
        piece = i;
        there = l;
        place = point d a 0;
        beside = beside_after d a 0;
        own = lies_pixel j v i (point d a 0) h;
        beyond = λ q s n. absurd (beyond_first d a q s n);
      }
  side_words i a (suc c) l h = side_step i a c l (covers_in j v i (point d a c)) (covers_in j v i (point d a (suc c))) refl refl h

  -- ── from the words to the test ──

  -- where nothing of the piece lies beyond, its test fails there
  nothing_beyond : ValidLayout j v → (i : ℕ) → i < j.size.count → (q : Point) → (HasPixel j v i q → ⊥) ⊎ (IsSheetPixel j q → ⊥) → covers_in j v i q ≡ false
  nothing_beyond within i l q (inl h) = fails (covers_in j v i q) (λ e. h (lies_pixel j v i q e))
  nothing_beyond within i l q (inr h) = fails (covers_in j v i q) (λ e. h (pixel_on_sheet j v within i l q (lies_pixel j v i q e)))

  -- the piece lies after the unit and not before it
  after_side : (i a c : ℕ) → covers_in j v i (point d a c) ≡ true → ((k : ℕ) → suc k ≡ c → covers_in j v i (point d a k) ≡ false) → side_of d j v i a c ≡ true
  unfolding side_of
  after_side i a zero on before = on
  after_side i a (suc c) on before = rw (before c refl, on)

  -- it lies before the unit and not after it
  before_side : (i a c : ℕ) → covers_in j v i (point d a c) ≡ true → covers_in j v i (point d a (suc c)) ≡ false → side_of d j v i a (suc c) ≡ true
  unfolding side_of
  before_side i a c on after = rw (on, after)

  -- places with different coordinates across differ
  other_place : (a c : ℕ) (p : Point) → across d p ≢ c → point d a c ≢ p
  other_place a c p n e = n (sym (ap (across d) e) ∙ across_point d a c)

  -- a side in words is a unit of the sheet and a side of the piece that it names
  words_step : ValidLayout j v → (a c i : ℕ) → i < j.size.count → (p : Point) → HasPixel j v i p → BesideUnit d a c p
      → ((q : Point) → BesideUnit d a c q → q ≢ p → (HasPixel j v i q → ⊥) ⊎ (IsSheetPixel j q → ⊥))
      → (a < sheet_extent d j) × (c < suc (sheet_extent (other d) j)) × (side_of d j v i a c ≡ true)
  words_step within a c i l p own (e, inl f) beyond =
      let on : covers_in j v i (point d a c) ≡ true = ap (covers_in j v i) (sym (place_is d a c p e f)) ∙ pixel_lies j v i p own in
      let sheet = sheet_along d j p (pixel_on_sheet j v within i l p own) in
      let u = sheet.0 in
      let w = sheet.1 in
      let before : (k : ℕ) → suc k ≡ c → covers_in j v i (point d a k) ≡ false =
      λ k g. nothing_beyond within i l (point d a k)
      (beyond (point d a k) (along_point d a k, inr (ap suc (across_point d a k) ∙ g)) (other_place a k p (λ h. omega arith))) in
      (omega arith, omega arith, after_side i a c on before)
  words_step within a c i l p own (e, inr f) beyond =
      let k : ℕ = across d p in
      let on : covers_in j v i (point d a k) ≡ true = ap (covers_in j v i) (sym (place_is d a k p e refl)) ∙ pixel_lies j v i p own in
      let sheet = sheet_along d j p (pixel_on_sheet j v within i l p own) in
      let u = sheet.0 in
      let w = sheet.1 in
      let after : covers_in j v i (point d a (suc k)) ≡ false =
      nothing_beyond within i l (point d a (suc k))
      (beyond (point d a (suc k)) (along_point d a (suc k), inl (across_point d a (suc k) ∙ f)) (other_place a (suc k) p (λ h. omega arith))) in
      (omega arith, omega arith, subst (λ (m : ℕ). side_of d j v i a m ≡ true) f (before_side i a k on after))

  -- the sides are exactly the units that the words name
  pub sides_exactly_lem : ValidLayout j v → (a c : ℕ) → (pixel (sides d j v) (point d a c) ≡ true) ↔ SideBetween d j v a c
  unfolding sides
  sides_exactly_lem within a c =
      let l : ℕ = sheet_extent d j in
      let w : ℕ = suc (sheet_extent (other d) j) in
      let test : ℕ → ℕ → Bool = λ a c. any_below j.size.count (λ i. side_of d j v i a c) in (
        λ h.
            let b = set_within d l w test a c h in
            let found = any_witness j.size.count (λ i. side_of d j v i a c) (sym (set_pixel d l w test a c b.0 b.1) ∙ h) in
            side_words found.number a c found.below found.passing,
        λ s.
            let r = words_step within a c s.piece s.there s.place s.own s.beside s.beyond in
            set_pixel d l w test a c r.0 r.1 ∙ any_from j.size.count s.piece (λ i. side_of d j v i a c) s.there r.2,
      )

-- ── other numbers ──

-- a piece lies on a pixel under its new number exactly where it lay under its old one
renumbered_lies : (j : Job) (v : Layout) (j' : Job) (v' : Layout) (r : Renumbered j v j' v') (i : ℕ) → i < j.size.count → (p : Point)
    → covers_in j' v' (r.number i) p ≡ covers_in j v i p
renumbered_lies j v j' v' r i l p =
    same_tests _ _ (λ h. pixel_lies j v i p ((r.pixels i l p).0 (lies_pixel j' v' (r.number i) p h)))
    (λ h. pixel_lies j' v' (r.number i) p ((r.pixels i l p).1 (lies_pixel j v i p h)))

-- so the test of a unit for it is the same
renumbered_side : (j : Job) (v : Layout) (j' : Job) (v' : Layout) (r : Renumbered j v j' v') (i : ℕ) → i < j.size.count → (d : Direction)
    (a c : ℕ) → side_of d j' v' (r.number i) a c ≡ side_of d j v i a c
unfolding side_of
renumbered_side j v j' v' r i l d a zero = renumbered_lies j v j' v' r i l (point d a 0)
renumbered_side j v j' v' r i l d a (suc c) =
    ap₂ differ (renumbered_lies j v j' v' r i l (point d a c)) (renumbered_lies j v j' v' r i l (point d a (suc c)))

-- the sides do not depend on the numbers
pub renumbered_sides : (j : Job) (v : Layout) (j' : Job) (v' : Layout) → Renumbered j v j' v' → (d : Direction)
    → SameShape (sides d j' v') (sides d j v)
unfolding sides
renumbered_sides j v j' v' r d =
    same_set d (sheet_extent d j') (sheet_extent d j) (suc (sheet_extent (other d) j')) (suc (sheet_extent (other d) j)) _ _ (same_extent d)
    (ap suc (same_extent (other d))) (λ a c s t. any_same a c)
  where
    same_extent : (e : Direction) → sheet_extent e j' ≡ sheet_extent e j
    same_extent Horizontal = r.columns
    same_extent Vertical = r.rows

    any_same : (a c : ℕ) → any_below j'.size.count (λ k. side_of d j' v' k a c) ≡ any_below j.size.count (λ i. side_of d j v i a c)
    any_same a c =
        same_tests _ _
        (λ h.
        let w = any_witness j'.size.count (λ k. side_of d j' v' k a c) h in
        let i = r.back w.number in
        let l = r.back_there w.number w.below in
        let same = renumbered_side j v j' v' r i l d a c in
        any_from j.size.count i (λ i. side_of d j v i a c) l
        (sym same ∙ ap (λ (k : ℕ). side_of d j' v' k a c) (r.again w.number w.below) ∙ w.passing))
        (λ h.
        let w = any_witness j.size.count (λ i. side_of d j v i a c) h in
        let i = w.number in
        any_from j'.size.count (r.number i) (λ k. side_of d j' v' k a c) (r.there i w.below)
        (renumbered_side j v j' v' r i w.below d a c ∙ w.passing))
