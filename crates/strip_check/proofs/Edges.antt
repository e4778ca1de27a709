-- Whether the set that valid strips make is tight, by the strips alone: a line holds a pixel where some strip lies in it, and a
-- line across holds one where some strip reaches it. With that, refusal 8 of rebuilding. Assumes nothing.
use Rattle.list_laws.proofs.Kit.{◌∙◌, ◌≡◌, ap, ap₂, refl, sym, Bool, ◌&&◌, and-true, false, true, List, Memᴰ, [], ◌∷◌, map, ◌+◌, ◌-◌, ◌<◌, ◌≤◌, suc, ℕ}
use Rattle.list_laws.proofs.Kit.{arith, eqb, leb, length, eq-eqb, eqb-true, le-leb, leb-true, lt-ltb, ltb-true}
use Rattle.model.specs.Bounded.{any_below, all_below}
use Rattle.model.specs.Piece.{Shape, other, along, across, point, extent, cell, holds, tight_along, tight}
use Rattle.model.specs.Strip.{Strip, strips, strips_have, rebuilt}
use Rattle.model.specs.Buffer.{strip_entry, same_entries}
use Rattle.model.specs.Calls.{rebuilt_from, strips_well}
use Rattle.model.specs.declared.Direction.{Direction}
use Rattle.model.specs.declared.Direction.TheVariants.{Horizontal, Vertical}
use Rattle.list_laws.proofs.Equal.{same_entries_exactly}
use Rattle.list_laws.proofs.Bounded.{Witness, any_witness, any_from, all_at, all_from}
use Rattle.list_laws.proofs.Tests.{and_left, and_right, and_both, same_tests, fails, clash}
use Rattle.strip_laws.proofs.Boxes.{along_point, across_point}
use Rattle.strip_laws.proofs.Strips.{InStrips, have_in, in_have}
use Rattle.strip_laws.specs.Strips.{side, StripFits, ValidStrips}
use Rattle.strip_laws.proofs.ValidStrips.{rebuilt_extent, valid_rebuilt, has_valid}
use Rattle.call_laws.specs.Rebuilding.{PieceOf}
use Rattle.call_laws.proofs.Rebuilding.{well_piece, strips_read_back}
use Rattle.strip_check.specs.Check.{strip_in, reaches, well_at, Whole}
use Rattle.strip_check.proofs.Validity.{strips_of, StripPlace, strip_listed, strip_place, valid_from, valid_to}

-- ── cells of the rebuilt set ──

-- a cell along the strips' direction
cell_along : (d : Direction) (l w : ℕ) (ts : List Strip) (a c : ℕ) → cell d (rebuilt d l w ts) a c ≡ strips_have d ts (point d a c)
unfolding rebuilt
cell_along Horizontal l w ts a c = refl
cell_along Vertical l w ts a c = refl

-- the same cell along the other direction
cell_across : (d : Direction) (l w : ℕ) (ts : List Strip) (a c : ℕ) → cell (other d) (rebuilt d l w ts) c a ≡ strips_have d ts (point d a c)
unfolding rebuilt
cell_across Horizontal l w ts a c = refl
cell_across Vertical l w ts a c = refl

-- a strip of the list that holds a cell
cell_strip : (d : Direction) (ts : List Strip) (t : Strip) (a c : ℕ) → Memᴰ t ts → t.line ≡ c → t.first ≤ a → a < t.first + t.count
    → strips_have d ts (point d a c) ≡ true
cell_strip d ts t a c m e low high =
    let f : along d (point d a c) ≡ a = along_point d a c in
    let g : across d (point d a c) ≡ c = across_point d a c in
    in_have d ts (point d a c) record { strip = t; listed = m; line = e ∙ sym g; low = omega arith; high = omega arith }

-- ── outer lines ──

module _ (d : Direction) (l w : ℕ) (es : List (List ℕ)) (v : ValidStrips d l w (strips_of es)) where
  -- a line along the strips holds a pixel exactly where a strip lies in it
  line_holds : (c : ℕ) → holds d (rebuilt_from d l w es) c ≡ any_below (length es) (λ i. eqb (strip_in es i).line c)
  line_holds c =
      let ts : List Strip = strips_of es in
      let s : Shape = rebuilt_from d l w es in
      let n : extent d s ≡ side d l w = rebuilt_extent d d l w ts in
      same_tests (holds d s c) (any_below (length es) (λ i. eqb (strip_in es i).line c))
      (λ e.
      let x : Witness (extent d s) (λ a. cell d s a c) = any_witness (extent d s) (λ a. cell d s a c) e in
      let q : InStrips d ts (point d x.number c) = have_in d ts (point d x.number c) (sym (cell_along d l w ts x.number c) ∙ x.passing) in
      let p : StripPlace es q.strip = strip_place es q.strip q.listed in
      any_from (length es) p.at (λ i. eqb (strip_in es i).line c) p.below
      (eq-eqb _ _ (ap (λ (t : Strip). t.line) p.is ∙ q.line ∙ across_point d x.number c)))
      (λ e.
      let x : Witness (length es) (λ i. eqb (strip_in es i).line c) = any_witness (length es) (λ i. eqb (strip_in es i).line c) e in
      let t : Strip = strip_in es x.number in
      let m : Memᴰ t ts = strip_listed es x.number x.below in
      let f : StripFits d l w t = v.fits t m in
      let some : 0 < t.count = f.some in
      let within : t.first + t.count ≤ side d l w = f.within in
      any_from (extent d s) t.first (λ a. cell d s a c) (omega arith)
      (cell_along d l w ts t.first c ∙ cell_strip d ts t t.first c m (eqb-true _ _ x.passing) (omega arith) (omega arith)))

  -- a line across the strips holds a pixel exactly where a strip reaches it
  place_holds : (a : ℕ) → holds (other d) (rebuilt_from d l w es) a ≡ any_below (length es) (λ i. reaches a (strip_in es i))
  place_holds a =
      let ts : List Strip = strips_of es in
      let s : Shape = rebuilt_from d l w es in
      let n : extent (other d) s ≡ side (other d) l w = rebuilt_extent (other d) d l w ts in
      same_tests (holds (other d) s a) (any_below (length es) (λ i. reaches a (strip_in es i)))
      (λ e.
      let x : Witness (extent (other d) s) (λ c. cell (other d) s c a) = any_witness (extent (other d) s) (λ c. cell (other d) s c a) e in
      let q : InStrips d ts (point d a x.number) = have_in d ts (point d a x.number) (sym (cell_across d l w ts a x.number) ∙ x.passing) in
      let p : StripPlace es q.strip = strip_place es q.strip q.listed in
      let g : along d (point d a x.number) ≡ a = along_point d a x.number in
      let low : q.strip.first ≤ along d (point d a x.number) = q.low in
      let high : along d (point d a x.number) < q.strip.first + q.strip.count = q.high in
      any_from (length es) p.at (λ i. reaches a (strip_in es i)) p.below
      (ap (reaches a) p.is ∙ and_both (le-leb q.strip.first a (omega arith)) (lt-ltb a (q.strip.first + q.strip.count) (omega arith))))
      (λ e.
      let x : Witness (length es) (λ i. reaches a (strip_in es i)) = any_witness (length es) (λ i. reaches a (strip_in es i)) e in
      let t : Strip = strip_in es x.number in
      let m : Memᴰ t ts = strip_listed es x.number x.below in
      let f : StripFits d l w t = v.fits t m in
      let line : t.line < side (other d) l w = f.line in
      any_from (extent (other d) s) t.line (λ c. cell (other d) s c a) (omega arith)
      (cell_across d l w ts a t.line
      ∙ cell_strip d ts t a t.line m refl (leb-true _ _ (and_left _ _ x.passing))
      (ltb-true _ _ (and_right (leb t.first a) _ x.passing))))

-- tight along the one direction and along the other
both_ways : (d : Direction) (s : Shape) → tight s ≡ (tight_along d s && tight_along (other d) s)
unfolding tight
both_ways Horizontal s = refl
both_ways Vertical s =
    same_tests _ _
    (λ e. and_both (and_right (tight_along Horizontal s) _ e) (and_left _ _ e))
    (λ e. and_both (and_right (tight_along Vertical s) _ e) (and_left _ _ e))

-- the four tests of a buffer: its strips reach the box's outer lines
abbrev pub touches : List (List ℕ) → ℕ → ℕ → Bool
touches es length lines =
    (any_below (lib.ListN.length es) (λ i. eqb (strip_in es i).line 0) && any_below (lib.ListN.length es) (λ i. eqb (strip_in es i).line (lines - 1)))
    && (any_below (lib.ListN.length es) (λ i. reaches 0 (strip_in es i)) && any_below (lib.ListN.length es) (λ i. reaches (length - 1) (strip_in es i)))

-- twice the other direction
other_twice : (d : Direction) → other (other d) ≡ d
other_twice Horizontal = refl
other_twice Vertical = refl

-- the set that valid strips make is tight exactly where they reach the outer lines
tight_by : (d : Direction) (l w : ℕ) (es : List (List ℕ)) → ValidStrips d l w (strips_of es)
    → tight (rebuilt_from d l w es) ≡ touches es (side d l w) (side (other d) l w)
tight_by d l w es v =
    let s : Shape = rebuilt_from d l w es in
    both_ways d s
    ∙ ap₂ ◌&&◌
    (ap₂ ◌&&◌ (line_holds d l w es v 0)
    (ap (λ n. holds d s (n - 1)) (rebuilt_extent (other d) d l w (strips_of es)) ∙ line_holds d l w es v (side (other d) l w - 1)))
    (ap₂ ◌&&◌ (place_holds d l w es v 0)
    (ap (λ e. holds (other d) s (extent e s - 1)) (other_twice d) ∙ ap (λ n. holds (other d) s (n - 1)) (rebuilt_extent d d l w (strips_of es))
    ∙ place_holds d l w es v (side d l w - 1)))

-- ── refusal 8 ──

-- entries that have just three numbers each are those of their strips
whole_again : (es : List (List ℕ)) → Whole es (length es) → map strip_entry (strips_of es) ≡ es
whole_again [] h = refl
whole_again (e ∷ es) h = ap₂ (λ (x : List ℕ) (xs : List (List ℕ)). x ∷ xs) (sym (h 0 (omega arith))) (whole_again es (λ k b. h (suc k) (omega arith)))

-- the strips of some piece are valid
pub well_valid : (d : Direction) (l w : ℕ) (es : List (List ℕ)) → strips_well d l w es ≡ true → ValidStrips d l w (strips_of es)
well_valid d l w es h =
    let p : PieceOf d l w es (rebuilt_from d l w es) = well_piece d l w es h in
    has_valid d l w (strips_of es) (rebuilt_from d l w es)
    record {
      columns = p.columns;
      rows = p.rows;
      are = sym (strips_read_back (strips d (rebuilt_from d l w es))) ∙ ap strips_of p.are;
    }

-- a buffer some strip of which fails is no piece's
not_well : (d : Direction) (l w : ℕ) (es : List (List ℕ)) → false ≡ all_below (length es) (well_at (side d l w) (side (other d) l w) es)
    → false ≡ strips_well d l w es
not_well d l w es e =
    sym (fails (strips_well d l w es)
    (λ h. clash (all_from (length es) (well_at (side d l w) (side (other d) l w) es) (valid_to d l w es (well_valid d l w es h))) (sym e)))

-- a buffer whose strips pass is some piece's exactly where they reach the outer lines
well_by : (d : Direction) (l w : ℕ) (es : List (List ℕ)) → true ≡ all_below (length es) (well_at (side d l w) (side (other d) l w) es)
    → Whole es (length es) → strips_well d l w es ≡ touches es (side d l w) (side (other d) l w)
unfolding strips_well
well_by d l w es e h =
    let v : ValidStrips d l w (strips_of es) = valid_from d l w es (all_at (length es) (well_at (side d l w) (side (other d) l w) es) (sym e)) in
    let same : same_entries (map strip_entry (strips d (rebuilt_from d l w es))) es ≡ true =
    (same_entries_exactly _ es).1 (ap (map strip_entry) (valid_rebuilt d l w (strips_of es) v) ∙ whole_again es h) in
    rw same (and-true (tight (rebuilt_from d l w es))) ∙ tight_by d l w es v

-- a box with a column and a row has a pixel along each direction
pub side_some : (d : Direction) (l w : ℕ) → 0 < l → 0 < w → 0 < side d l w
side_some Horizontal l w p q = p
side_some Vertical l w p q = q

-- ── the same by the sides that the code computes ──

pub not_well_here : (d : Direction) (l w : ℕ) (es : List (List ℕ)) (n m : ℕ) → n ≡ side d l w → m ≡ side (other d) l w
    → false ≡ all_below (length es) (well_at n m es) → false ≡ strips_well d l w es
not_well_here d l w es n m p q e = not_well d l w es (e ∙ ap₂ (λ (x y : ℕ). all_below (length es) (well_at x y es)) p q)

pub well_here : (d : Direction) (l w : ℕ) (es : List (List ℕ)) (n m : ℕ) → n ≡ side d l w → m ≡ side (other d) l w
    → true ≡ all_below (length es) (well_at n m es) → Whole es (length es) → strips_well d l w es ≡ touches es n m
well_here d l w es n m p q e h =
    well_by d l w es (e ∙ ap₂ (λ (x y : ℕ). all_below (length es) (well_at x y es)) p q) h ∙ sym (ap₂ (touches es) p q)
