-- Setting pixels in a buffer of rows: one pixel, a strip pixel after pixel, all strips, and the bytes that are left. What is still
-- to be set is said by a test on points, so that each loop shows only how its test is taken apart. Assumes nothing.
use Rattle.list_laws.proofs.Kit.{◌∙◌, ◌≡◌, ap, ap₂, refl, sym, Bool, ◌&&◌, ◌||◌, false, true, ⊎_elim, List, [], ◌*◌, ◌+◌, ◌-◌, ◌<◌, ◌≤◌, suc, ℕ}
use Rattle.list_laws.proofs.Kit.{arith, eqb, get_or-map, drop, drop_of_length-le, get_or, length, length-map, length-set, set, drop-cons}
use Rattle.list_laws.proofs.Kit.{get_or-set_other, get_or-set_same, eq-eqb, eqb-true}
use Rattle.model.specs.Piece.{Point}
use Rattle.model.specs.Strip.{Strip, strip_has, strips_have}
use Rattle.model.specs.Buffer.{entry_strip}
use Rattle.model.specs.declared.Direction.{Direction}
use Rattle.list_laws.proofs.Tests.{and_left, and_right, and_both, clash}
use Rattle.list_laws.proofs.Numbers.{in_rows_lem, below_or}
use Rattle.strip_check.specs.Check.{strip_in}
use Rattle.strip_paint.specs.Paint.{over, same_point, Painted, PaintRoom}
use Rattle.strip_check.proofs.Validity.{strips_of}

-- ── places in rows of l ──

-- a place is in one row
same_row : (l x y u v : ℕ) → x < l → u < l → y * l + x ≡ v * l + u → y ≡ v
same_row l x y u v a b e =
    let p : y < v → ⊥ = λ h. let k = in_rows_lem {l = l} {w = v} {x = x} {y = y} a h in omega arith in
    let q : v < y → ⊥ = λ h. let k = in_rows_lem {l = l} {w = y} {x = u} {y = v} b h in omega arith in
    ⊎_elim (λ (h : y < v). absurd (p h)) (λ (h : v ≤ y). ⊎_elim (λ (k : v < y). absurd (q k)) (λ (k : y ≤ v). omega arith) (below_or v y))
    (below_or y v)

-- and in one column
same_column : (l x y u v : ℕ) → x < l → u < l → y * l + x ≡ v * l + u → x ≡ u
same_column l x y u v a b e =
    let k : y * l ≡ v * l = ap (λ n. n * l) (same_row l x y u v a b e) in
    omega arith

-- ── one pixel ──

-- by whether the point is the one that is set
one_step : (l x y u v : ℕ) (before : List ℕ) (b : Bool) → (eqb x u && eqb y v) ≡ b → x < l → u < l → y * l + x < length before
    → get_or (set before (y * l + x) 1) (v * l + u) 0 ≡ over b (get_or before (v * l + u) 0)
one_step l x y u v before true e a b h =
    let p : x ≡ u = eqb-true x u (and_left _ _ e) in
    let q : y ≡ v = eqb-true y v (and_right (eqb x u) _ e) in
    ap₂ (λ (n m : ℕ). get_or (set before (y * l + x) 1) (m * l + n) 0) (sym p) (sym q) ∙ get_or-set_same before (y * l + x) 1 0 h
one_step l x y u v before false e a b h =
    get_or-set_other before (y * l + x) (v * l + u) 1 0
    (λ q. clash (and_both (eq-eqb x u (same_column l x y u v a b (sym q))) (eq-eqb y v (same_row l x y u v a b (sym q)))) e)

-- a store sets the point's pixel
pub one_painted : (l x y : ℕ) (before : List ℕ) → x < l → y * l + x < length before
    → Painted l (same_point (record { x = x; y = y })) before (set before (y * l + x) 1)
one_painted l x y before a h =
    record {
      long = length-set before (y * l + x) 1;
      bytes = λ u v b. one_step l x y u v before (eqb x u && eqb y v) refl a b h;
    }

-- ── what is still to be set ──

-- setting the points that are left in the present buffer gives what setting all of them gave at first
pub record Painting (l : ℕ) (all : Point → Bool) (before present : List ℕ) (left : Point → Bool) : Type 0 where
  pub long : length present ≡ length before
  pub bytes : (x y : ℕ) → x < l
      → over (left (record { x = x; y = y })) (get_or present (y * l + x) 0) ≡ over (all (record { x = x; y = y })) (get_or before (y * l + x) 0)

over_over : (a b : Bool) (k : ℕ) → over b (over a k) ≡ over (a || b) k
over_over true true k = refl
over_over true false k = refl
over_over false b k = refl

-- some are set
pub paint_step : {l : ℕ} {all left one rest : Point → Bool} {before present next : List ℕ} → ((p : Point) → left p ≡ (one p || rest p))
    → Painted l one present next → Painting l all before present left → Painting l all before next rest
paint_step {l} {all} {left} {one} {rest} {before} {present} {next} e o g =
    record {
      long = o.long ∙ g.long;
      bytes = λ x y a.
          let p : Point = record { x = x; y = y } in
          ap (over (rest p)) (o.bytes x y a) ∙ over_over (one p) (rest p) (get_or present (y * l + x) 0)
          ∙ ap (λ b. over b (get_or present (y * l + x) 0)) (sym (e p)) ∙ g.bytes x y a;
    }

-- none is left
pub paint_end : {l : ℕ} {all left : Point → Bool} {before present : List ℕ} → ((p : Point) → left p ≡ false)
    → Painting l all before present left → Painted l all before present
paint_end {l} {all} {left} {before} {present} e g =
    record {
      long = g.long;
      bytes = λ x y a. ap (λ b. over b (get_or present (y * l + x) 0)) (sym (e (record { x = x; y = y }))) ∙ g.bytes x y a;
    }

-- ── a strip ──

-- the strip from a place on up to an end
abbrev pub part_of : Strip → ℕ → ℕ → Strip
part_of t at end = record { line = t.line; first = at; count = end - at }

-- ── all strips ──

-- the strips from a place on are the strip there and those behind it
pub strips_step : (d : Direction) (es : List (List ℕ)) (i : ℕ) → i < length es → (p : Point)
    → strips_have d (drop i (strips_of es)) p ≡ (strip_has d (strip_in es i) p || strips_have d (drop (i + 1) (strips_of es)) p)
unfolding strips_have
strips_step d es i h p =
    let n : i < length (strips_of es) = rw (length-map es entry_strip) h in
    let q : i + 1 ≡ suc i = omega arith in
    rw (drop-cons (strips_of es) i (entry_strip []) n, q, get_or-map entry_strip es i []) (same (strip_has d (strip_in es i) p))
  where
    same : (b : Bool) → elim b as (λ _. Bool) [ true ↦ true | false ↦ strips_have d (drop (suc i) (strips_of es)) p ]
        ≡ (b || strips_have d (drop (suc i) (strips_of es)) p)
    same true = refl
    same false = refl

-- behind the last there is none
pub strips_none : (d : Direction) (es : List (List ℕ)) (i : ℕ) → length es ≤ i → (p : Point) → strips_have d (drop i (strips_of es)) p ≡ false
unfolding strips_have
strips_none d es i h p =
    let n : length (strips_of es) ≤ i = rw (length-map es entry_strip) h in
    rw (drop_of_length-le (strips_of es) n)

-- ── room ──

-- a buffer of the same length has room too
pub room_again : {l w : ℕ} {pixels others : List ℕ} → PaintRoom l w pixels → length others ≡ length pixels → PaintRoom l w others
room_again {l} {w} {pixels} {others} r e =
    let long : l * w ≤ length pixels = r.long in
    record { wide = r.wide; high = r.high; columns_small = r.columns_small; rows_small = r.rows_small; long = omega arith }
