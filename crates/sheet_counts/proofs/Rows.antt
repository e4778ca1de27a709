-- The counts after a piece's rows are added or taken off, one after another, and why they are the sheet's definition of it: the place
-- in row d and column e of the turned box is the sheet's pixel (x + e, y + d), and no other pixel is touched. Assumes nothing.
use Rattle.list_laws.proofs.Kit.{◌∙◌, ◌≡◌, ap, refl, sym, Bool, ◌&&◌, false, true, ◌≢◌, ◌⊎◌, inl, inr, ⊎_elim, List, ◌*◌, ◌+◌, ◌-◌, ◌<◌, ◌≤◌, suc, zero, ℕ}
use Rattle.list_laws.proofs.Kit.{add-one, add-mul, suc-mul, zero-add, zero-mul, arith, leb, ltb, get_or, length, ext_get_or, le-leb, leb-true, lt-ltb, ltb-false}
use Rattle.list_laws.proofs.Kit.{ltb-true}
use Rattle.model.specs.Piece.{Point, Shape, covers}
use Rattle.model.specs.Layout.{Job}
use Rattle.model.specs.Cover.{pixel_at, map_from}
use Rattle.list_laws.proofs.Tests.{and_left, and_right, and_both, clash, decided}
use Rattle.cover_laws.proofs.Calls.{length_map_from, get_d_map_from}
use Rattle.cover_laws.proofs.Pixels.{pixel_at_lem, PixelOnSheet, number_pixel}
use Rattle.sheet_counts.specs.declared.Change.{Change}
use Rattle.sheet_counts.specs.Stamp.{moved, moved_run, moved_rows}
use Rattle.sheet_counts.proofs.Runs.{length_run, run_outside, run_inside}

module _ (change : Change) (f : ℕ → ℕ → Bool) (sheet width : ℕ) where
  -- the first of the rows that are left
  pub rows_step : (cs : List ℕ) (from y n : ℕ) → y < n
      → moved_rows change f sheet width cs from y (n - y)
      ≡ moved_rows change f sheet width (moved_run change (f y) from cs 0 width) (from + sheet) (y + 1) (n - (y + 1))
  unfolding moved_rows
  rows_step cs from y n l =
      let left : n - y ≡ suc (n - (y + 1)) = omega arith in
      rw (left, moved_rows, add-one)

  -- no row is left
  pub rows_end : (cs : List ℕ) (from y n : ℕ) → n ≤ y → moved_rows change f sheet width cs from y (n - y) ≡ cs
  unfolding moved_rows
  rows_end cs from y n l =
      let left : n - y ≡ 0 = omega arith in
      rw left

module _ (change : Change) (f : ℕ → ℕ → Bool) (sheet width : ℕ) (narrow : width ≤ sheet) where
  -- as many counts as before
  pub length_rows : (cs : List ℕ) (from y left : ℕ) → length (moved_rows change f sheet width cs from y left) ≡ length cs
  unfolding moved_rows
  length_rows cs from y zero = refl
  length_rows cs from y (suc left) =
      length_rows (moved_run change (f y) from cs 0 width) (from + sheet) (suc y) left ∙ length_run change (f y) from cs 0 width

  -- a count before the first row stays
  rows_below : (cs : List ℕ) (from y left m : ℕ) → m < from → get_or (moved_rows change f sheet width cs from y left) m 0 ≡ get_or cs m 0
  unfolding moved_rows
  rows_below cs from y zero m l = refl
  rows_below cs from y (suc left) m l =
      rows_below (moved_run change (f y) from cs 0 width) (from + sheet) (suc y) left m (omega arith)
      ∙ run_outside change (f y) from cs 0 width m (inl (omega arith))

  -- the count of row d and column e moves by its pixel
  pub rows_inside : (cs : List ℕ) (from y left d e : ℕ) → d < left → e < width → from + (d * sheet + e) < length cs
      → get_or (moved_rows change f sheet width cs from y left) (from + (d * sheet + e)) 0
      ≡ moved change (f (y + d) e) (get_or cs (from + (d * sheet + e)) 0)
  unfolding moved_rows
  rows_inside cs from y zero d e l l' h = absurd (omega arith)
  rows_inside cs from y (suc left) zero e l l' h =
      let first : 0 * sheet + e ≡ 0 + e = rw zero-mul in
      let row : y + 0 ≡ y = omega arith in
      let here : from + (0 + e) ≡ from + e = omega arith in
      rw (first, row)
      (rows_below (moved_run change (f y) from cs 0 width) (from + sheet) (suc y) left (from + (0 + e)) (omega arith)
      ∙ run_inside change (f y) from cs 0 width e l' (let q = first in omega arith)
      ∙ ap (λ (n : ℕ). moved change (f y n) (get_or cs (from + (0 + e)) 0)) (zero-add e))
  rows_inside cs from y (suc left) (suc d) e l l' h =
      let step : suc d * sheet ≡ d * sheet + sheet = suc-mul d sheet in
      let there : from + (suc d * sheet + e) ≡ from + sheet + (d * sheet + e) = omega arith in
      let row : y + suc d ≡ suc y + d = omega arith in
      rw (there, row)
      (rows_inside (moved_run change (f y) from cs 0 width) (from + sheet) (suc y) left d e (omega arith) l'
      (rw (length_run change (f y) from cs 0 width) (omega arith))
      ∙ ap (moved change (f (suc y + d) e)) (run_outside change (f y) from cs 0 width (from + sheet + (d * sheet + e)) (inr (omega arith))))

  -- a count in no row stays
  pub rows_outside : (cs : List ℕ) (from y left m : ℕ) → ((d e : ℕ) → d < left → e < width → m ≢ from + (d * sheet + e))
      → get_or (moved_rows change f sheet width cs from y left) m 0 ≡ get_or cs m 0
  unfolding moved_rows
  rows_outside cs from y zero m h = refl
  rows_outside cs from y (suc left) m h =
      rows_outside (moved_run change (f y) from cs 0 width) (from + sheet) (suc y) left m
      (λ d e l l' q. h (suc d) e (omega arith) l' (let step = suc-mul d sheet in omega arith))
      ∙ run_outside change (f y) from cs 0 width m
      (⊎_elim (λ t. inl (let l = ltb-true m from t in omega arith))
      (λ t.
      ⊎_elim
      (λ t'.
      absurd
      (h 0 (m - from) (omega arith) (let l = ltb-false m from t in let l' = ltb-true m (from + width) t' in omega arith)
      (let none = zero-mul sheet in let l = ltb-false m from t in omega arith)))
      (λ t'. inr (let l = ltb-false m (from + width) t' in omega arith)) (decided (ltb m (from + width))))
      (decided (ltb m from)))

-- ── the piece on the sheet ──

-- where a part of a test fails, so does the test with one part more
fails_more : (a b c d h : Bool) → (a && b && (c && d)) ≡ false → (a && b && (c && d && h)) ≡ false
fails_more true true true true h e = absurd (clash refl e)
fails_more true true true false h e = refl
fails_more true true false d h e = refl
fails_more true false c d h e = refl
fails_more false b c d h e = refl

-- the sheet's pixel q is the place in column e and row d of the box of s with its corner at v
pub record RowWithin (s : Shape) (v q : Point) : Type 0 where
  pub e : ℕ
  pub d : ℕ
  pub column : e < s.columns
  pub row : d < s.rows
  pub x : q.x ≡ v.x + e
  pub y : q.y ≡ v.y + d
  pub covered : covers s v q ≡ s.has e d

-- q is in no place of the box
pub record Beside (s : Shape) (v q : Point) : Type 0 where
  pub nowhere : (d e : ℕ) → d < s.rows → e < s.columns → q.x ≡ v.x + e → q.y ≡ v.y + d → ⊥
  pub uncovered : covers s v q ≡ false

-- q is one of the places that the box covers
abbrev box_test : Shape → Point → Point → Bool
box_test s v q = leb v.x q.x && leb v.y q.y && (ltb (q.x - v.x) s.columns && ltb (q.y - v.y) s.rows)

inner_place : (s : Shape) (v q : Point) → box_test s v q ≡ true → RowWithin s v q
inner_place s v q t =
    let low = and_left (leb v.x q.x && leb v.y q.y) (ltb (q.x - v.x) s.columns && ltb (q.y - v.y) s.rows) t in
    let high = and_right (leb v.x q.x && leb v.y q.y) (ltb (q.x - v.x) s.columns && ltb (q.y - v.y) s.rows) t in
    let a : leb v.x q.x ≡ true = and_left (leb v.x q.x) (leb v.y q.y) low in
    let b : leb v.y q.y ≡ true = and_right (leb v.x q.x) (leb v.y q.y) low in
    let c : ltb (q.x - v.x) s.columns ≡ true = and_left (ltb (q.x - v.x) s.columns) (ltb (q.y - v.y) s.rows) high in
    let d : ltb (q.y - v.y) s.rows ≡ true = and_right (ltb (q.x - v.x) s.columns) (ltb (q.y - v.y) s.rows) high in
    let left : v.x ≤ q.x = leb-true v.x q.x a in
    let under : v.y ≤ q.y = leb-true v.y q.y b in
    record {
      e = q.x - v.x;
      d = q.y - v.y;
      column = ltb-true (q.x - v.x) s.columns c;
      row = ltb-true (q.y - v.y) s.rows d;
      x = omega arith;
      y = omega arith;
      covered = rw (a, b, c, d);
    }

outer_place : (s : Shape) (v q : Point) → box_test s v q ≡ false → Beside s v q
outer_place s v q t =
    record {
      nowhere = λ d e l l' x y.
          clash
          (and_both (and_both (le-leb v.x q.x (omega arith)) (le-leb v.y q.y (omega arith)))
          (and_both (lt-ltb (q.x - v.x) s.columns (omega arith)) (lt-ltb (q.y - v.y) s.rows (omega arith))))
          t;
      uncovered =
          fails_more (leb v.x q.x) (leb v.y q.y) (ltb (q.x - v.x) s.columns) (ltb (q.y - v.y) s.rows)
          (s.has (q.x - v.x) (q.y - v.y)) t;
    }

-- a pixel is in the box or beside it
pub box_cases : (s : Shape) (v q : Point) → RowWithin s v q ⊎ Beside s v q
box_cases s v q = ⊎_elim (λ t. inl (inner_place s v q t)) (λ t. inr (outer_place s v q t)) (decided (box_test s v q))

module _ (j : Job) (s : Shape) (v : Point) (long : v.x + s.columns ≤ j.size.columns) (wide : v.y + s.rows ≤ j.size.rows) where
  -- the number of the first place of the box's first row
  abbrev first : ℕ
  first = v.y * j.size.columns + v.x

  -- a place's number
  place_number : (d e k : ℕ) (q : Point) → q.y * j.size.columns + q.x ≡ k → q.x ≡ v.x + e → q.y ≡ v.y + d → k ≡ first + (d * j.size.columns + e)
  place_number d e k q number x y =
      let split : q.y * j.size.columns ≡ v.y * j.size.columns + d * j.size.columns =
      ap (λ (n : ℕ). n * j.size.columns) y ∙ add-mul v.y d j.size.columns in
      omega arith

  -- each count after the piece's rows
  stamped_at : (change : Change) (cs : List ℕ) (k : ℕ) → length cs ≡ j.size.rows * j.size.columns → k < length cs
      → get_or (moved_rows change (λ y x. s.has x y) j.size.columns s.columns cs first 0 s.rows) k 0
      ≡ moved change (covers s v (pixel_at j k)) (get_or cs k 0)
  stamped_at change cs k full l = ⊎_elim inner outer (box_cases s v (pixel_at j k))
    where
      on : PixelOnSheet j k (pixel_at j k)
      on = number_pixel j k (omega arith)

      inner : RowWithin s v (pixel_at j k) → get_or (moved_rows change (λ y x. s.has x y) j.size.columns s.columns cs first 0 s.rows) k 0
          ≡ moved change (covers s v (pixel_at j k)) (get_or cs k 0)
      inner w =
          let here : k ≡ first + (w.d * j.size.columns + w.e) = place_number w.d w.e k (pixel_at j k) on.number w.x w.y in
          let there : first + (w.d * j.size.columns + w.e) < length cs = omega arith in
          ap (λ (m : ℕ). get_or (moved_rows change (λ y x. s.has x y) j.size.columns s.columns cs first 0 s.rows) m 0) here
          ∙ rows_inside change (λ y x. s.has x y) j.size.columns s.columns (omega arith) cs first 0 s.rows w.d w.e w.row w.column there
          ∙ ap (λ (n : ℕ). moved change (s.has w.e n) (get_or cs (first + (w.d * j.size.columns + w.e)) 0)) (zero-add w.d)
          ∙ ap (λ (m : ℕ). moved change (s.has w.e w.d) (get_or cs m 0)) (sym here)
          ∙ ap (λ (b : Bool). moved change b (get_or cs k 0)) (sym w.covered)

      outer : Beside s v (pixel_at j k) → get_or (moved_rows change (λ y x. s.has x y) j.size.columns s.columns cs first 0 s.rows) k 0
          ≡ moved change (covers s v (pixel_at j k)) (get_or cs k 0)
      outer b =
          rows_outside change (λ y x. s.has x y) j.size.columns s.columns (omega arith) cs first 0 s.rows k
          (λ d e l₁ l₂ q.
          let split : (v.y + d) * j.size.columns ≡ v.y * j.size.columns + d * j.size.columns = add-mul v.y d j.size.columns in
          let number : k ≡ (v.y + d) * j.size.columns + (v.x + e) = omega arith in
          let place = ap (pixel_at j) number ∙ pixel_at_lem j (v.x + e) (v.y + d) (omega arith) in
          b.nowhere d e l₁ l₂ (ap (λ (p : Point). p.x) place) (ap (λ (p : Point). p.y) place))
          ∙ ap (λ (t : Bool). moved change t (get_or cs k 0)) (sym b.uncovered)

  -- the piece's rows move the counts as the sheet's definition says
  pub stamped : (change : Change) (cs : List ℕ) → length cs ≡ j.size.rows * j.size.columns
      → moved_rows change (λ y x. s.has x y) j.size.columns s.columns cs first 0 s.rows
      ≡ map_from (λ k c. moved change (covers s v (pixel_at j k)) c) 0 cs
  stamped change cs full =
      ext_get_or 0 _ _
      (length_rows change (λ y x. s.has x y) j.size.columns s.columns (omega arith) cs first 0 s.rows ∙ sym (length_map_from _ 0 cs))
      (λ k l.
      let l' : k < length cs = rw (length_rows change (λ y x. s.has x y) j.size.columns s.columns (omega arith) cs first 0 s.rows) at l in
      stamped_at change cs k full l' ∙ sym (get_d_map_from (λ m c. moved change (covers s v (pixel_at j m)) c) 0 cs k l' ∙ rw zero-add))
