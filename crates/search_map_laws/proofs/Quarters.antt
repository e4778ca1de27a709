-- Two pieces turned by a quarter share pixels as before at the turned corners, so each depth is the other one's and the penalty is the same. A line along a
-- row of the turned ones is one along a column, backwards; one along a column is one along a row, at the mirrored offset. Assumes nothing.
use Rattle.list_laws.proofs.Kit.{◌∙◌, ◌≡◌, ap, ap₂, refl, sym, ⊎_elim, inl, inr, ◌⊎◌, ◌+◌, ◌-◌, ◌<◌, ◌≤◌, ℕ, arith, le_antisymm}
use Rattle.list_laws.proofs.Numbers.{below_or}
use Rattle.list_laws.proofs.Tests.{same_tests}
use Rattle.model.specs.Piece.{Point, Shape, pixel, point, shift, extent, turn_point, turned}
use Rattle.model.specs.Overlap.{share, depth, penalty}
use Rattle.model.specs.declared.Direction.{Direction}
use Rattle.model.specs.declared.Direction.TheVariants.{Horizontal, Vertical}
use Rattle.model.specs.declared.Turn.{Turn}
use Rattle.model.specs.declared.Turn.TheVariants.{Zero, Quarter, Half, ThreeQuarters}
use Rattle.strip_laws.specs.Boxes.{SameShape}
use Rattle.strip_laws.specs.Turns.{image}
use Rattle.strip_laws.proofs.Boxes.{pixel_in_box, same_extent}
use Rattle.strip_laws.proofs.Turns.{image_pixel, turned_exactly}
use Rattle.overlap_laws.specs.Overlap.{SharedPixel}
use Rattle.overlap_laws.specs.Grown.{wide_bound}
use Rattle.overlap_laws.proofs.Share.{share_witness, share_from}
use Rattle.overlap_laws.proofs.Depth.{apart_first, apart_second, depth_least, depth_parts}
use Rattle.overlap_laws.proofs.Penalty.{penalty_pixels}
use Rattle.search_laws.specs.Lines.{middle, line_penalty}
use Rattle.search_maps.proofs.Turning.{same_in_box}
use Rattle.search_map_lines.proofs.Penalties.{far_penalty}
use Rattle.search_map_laws.specs.Turns.{turn_before}

-- ── sharing ──

-- u and v are corners of s and t, u' and v' those after a quarter turn of the sheet
pub record QuarterCorners (s t : Shape) (u v u' v' : Point) : Type 0 where
  pub column : u'.x + u.y + s.rows ≡ v'.x + v.y + t.rows
  pub row : u'.y + v.x ≡ v'.y + u.x

module _ (s t : Shape) (u v u' v' : Point) (c : QuarterCorners s t u v u' v') where
  -- shared pixels are turned to shared pixels
  shared_on : SharedPixel s u t v → SharedPixel (turned Quarter s) u' (turned Quarter t) v'
  unfolding turn_point
  shared_on w =
      let i = pixel_in_box s w.p w.of_first in
      let j = pixel_in_box t w.q w.of_second in
      record {
        p = image Quarter s w.p;
        q = image Quarter t w.q;
        of_first = image_pixel Quarter s w.p i ∙ w.of_first;
        of_second = image_pixel Quarter t w.q j ∙ w.of_second;
        column = omega (arith, c.column, w.row, i.row, j.row);
        row = omega (arith, c.row, w.column);
      }

  -- and come from such
  shared_back : SharedPixel (turned Quarter s) u' (turned Quarter t) v' → SharedPixel s u t v
  unfolding turn_point
  shared_back w =
      let i = (turned_exactly Quarter s).onto w.p (pixel_in_box (turned Quarter s) w.p w.of_first) in
      let j = (turned_exactly Quarter t).onto w.q (pixel_in_box (turned Quarter t) w.q w.of_second) in
      let ix : s.rows - 1 - i.from.y ≡ w.p.x = ap (λ (r : Point). r.x) i.goes in
      let iy : i.from.x ≡ w.p.y = ap (λ (r : Point). r.y) i.goes in
      let jx : t.rows - 1 - j.from.y ≡ w.q.x = ap (λ (r : Point). r.x) j.goes in
      let jy : j.from.x ≡ w.q.y = ap (λ (r : Point). r.y) j.goes in
      record {
        p = i.from;
        q = j.from;
        of_first = sym (image_pixel Quarter s i.from i.in_box) ∙ ap (pixel (turned Quarter s)) i.goes ∙ w.of_first;
        of_second = sym (image_pixel Quarter t j.from j.in_box) ∙ ap (pixel (turned Quarter t)) j.goes ∙ w.of_second;
        column = omega (arith, c.row, w.row);
        row = omega (arith, c.column, w.column, i.in_box.row, j.in_box.row);
      }

  -- so they share alike
  share_quarter : share s u t v ≡ share (turned Quarter s) u' (turned Quarter t) v'
  share_quarter =
      same_tests _ _
      (λ e. share_from (turned Quarter s) u' (turned Quarter t) v' (shared_on (share_witness s u t v e)))
      (λ e. share_from s u t v (shared_back (share_witness (turned Quarter s) u' (turned Quarter t) v' e)))

-- ── depths ──

module _ (s t : Shape) (u v u' v' : Point) (c : QuarterCorners s t u v u' v') where
  -- a shift along a column becomes one along a row, the other way
  first_up : (k : ℕ) → share s (shift Vertical k u) t v ≡ share (turned Quarter s) u' (turned Quarter t) (shift Horizontal k v')
  first_up k = share_quarter s t (shift Vertical k u) v u' (shift Horizontal k v') (record { column = omega (arith, c.column); row = c.row })

  second_up : (k : ℕ) → share s u t (shift Vertical k v) ≡ share (turned Quarter s) (shift Horizontal k u') (turned Quarter t) v'
  second_up k = share_quarter s t u (shift Vertical k v) (shift Horizontal k u') v' (record { column = omega (arith, c.column); row = c.row })

  -- one along a row becomes one along a column, the same way
  first_right : (k : ℕ) → share s (shift Horizontal k u) t v ≡ share (turned Quarter s) (shift Vertical k u') (turned Quarter t) v'
  first_right k = share_quarter s t (shift Horizontal k u) v (shift Vertical k u') v' (record { column = c.column; row = omega (arith, c.row) })

  second_right : (k : ℕ) → share s u t (shift Horizontal k v) ≡ share (turned Quarter s) u' (turned Quarter t) (shift Vertical k v')
  second_right k = share_quarter s t u (shift Horizontal k v) u' (shift Vertical k v') (record { column = c.column; row = omega (arith, c.row) })

  -- so the depth along a column is that along a row after the turn
  depth_up : depth Vertical s u t v ≡ depth Horizontal (turned Quarter s) u' (turned Quarter t) v'
  depth_up =
      let m = depth Horizontal (turned Quarter s) u' (turned Quarter t) v' in
      let n = depth Vertical s u t v in
      le_antisymm
      (depth_least Vertical s u t v m
      (⊎_elim (λ a. apart_first Vertical s u t v m (first_up m ∙ a)) (λ b. apart_second Vertical s u t v m (second_up m ∙ b))
      (depth_parts Horizontal (turned Quarter s) u' (turned Quarter t) v')))
      (depth_least Horizontal (turned Quarter s) u' (turned Quarter t) v' n
      (⊎_elim (λ a. apart_first Horizontal (turned Quarter s) u' (turned Quarter t) v' n (sym (second_up n) ∙ a))
      (λ b. apart_second Horizontal (turned Quarter s) u' (turned Quarter t) v' n (sym (first_up n) ∙ b)) (depth_parts Vertical s u t v)))

  -- and the depth along a row that along a column
  depth_right : depth Horizontal s u t v ≡ depth Vertical (turned Quarter s) u' (turned Quarter t) v'
  depth_right =
      let m = depth Vertical (turned Quarter s) u' (turned Quarter t) v' in
      let n = depth Horizontal s u t v in
      le_antisymm
      (depth_least Horizontal s u t v m
      (⊎_elim (λ a. apart_second Horizontal s u t v m (second_right m ∙ a)) (λ b. apart_first Horizontal s u t v m (first_right m ∙ b))
      (depth_parts Vertical (turned Quarter s) u' (turned Quarter t) v')))
      (depth_least Vertical (turned Quarter s) u' (turned Quarter t) v' n
      (⊎_elim (λ a. apart_second Vertical (turned Quarter s) u' (turned Quarter t) v' n (sym (second_right n) ∙ a))
      (λ b. apart_first Vertical (turned Quarter s) u' (turned Quarter t) v' n (sym (first_right n) ∙ b)) (depth_parts Horizontal s u t v)))

  -- the penalty is the same
  penalty_quarter : penalty s u t v ≡ penalty (turned Quarter s) u' (turned Quarter t) v'
  unfolding penalty
  penalty_quarter = let a = depth_up in let b = depth_right in omega arith

-- ── lines ──

-- a line along a row of the turned ones
row_quarter : (s t : Shape) (o k : ℕ) → 1 ≤ s.rows → k < s.rows + t.rows - 1
    → line_penalty Horizontal (turned Quarter s) (turned Quarter t) o k ≡ line_penalty Vertical s t o (s.rows + t.rows - 1 - 1 - k)
unfolding line_penalty
row_quarter s t o k some there =
    let K : ℕ = s.rows + t.rows - 1 - 1 - k in
    sym (penalty_quarter s t (point Vertical K middle) (point Vertical (s.rows - 1) o) (point Horizontal k middle) (point Horizontal (s.rows - 1) o)
    (record { column = omega arith; row = omega arith }))

-- one along a column, at an offset that has a mirrored one
near_quarter : (s t : Shape) (o o' k : ℕ) → t.rows + o + o' ≡ middle + middle + s.rows
    → line_penalty Vertical (turned Quarter s) (turned Quarter t) o k ≡ line_penalty Horizontal s t o' k
unfolding line_penalty
near_quarter s t o o' k e =
    sym (penalty_quarter s t (point Horizontal k middle) (point Horizontal (s.columns - 1) o') (point Vertical k middle) (point Vertical (s.columns - 1) o)
    (record { column = omega arith; row = omega arith }))

-- and at any: where there is none the boxes do not meet
column_quarter : (s t : Shape) (o k : ℕ) → t.rows ≤ wide_bound
    → line_penalty Vertical (turned Quarter s) (turned Quarter t) o k ≡ line_penalty Horizontal s t (middle + middle + s.rows - (t.rows + o)) k
column_quarter s t o k small = go (below_or (middle + middle + s.rows) (t.rows + o))
  where
    go : (middle + middle + s.rows < t.rows + o) ⊎ (t.rows + o ≤ middle + middle + s.rows)
        → line_penalty Vertical (turned Quarter s) (turned Quarter t) o k ≡ line_penalty Horizontal s t (middle + middle + s.rows - (t.rows + o)) k
    go (inl l) =
        far_penalty Vertical (turned Quarter s) (turned Quarter t) o k (inl (omega arith))
        ∙ sym (far_penalty Horizontal s t (middle + middle + s.rows - (t.rows + o)) k (inr (omega arith)))
    go (inr l) = near_quarter s t o (middle + middle + s.rows - (t.rows + o)) k (omega arith)

-- ── any turn ──

-- a turn is a quarter turn after the turn before it
quarter_after : (t : Turn) (s : Shape) → SameShape (turned t s) (turned Quarter (turned (turn_before t) s))
quarter_after Zero s =
    same_in_box s (turned Quarter (turned ThreeQuarters s)) refl refl (λ x y l m. ap₂ s.has (omega arith) refl)
quarter_after Quarter s = same_in_box (turned Quarter s) (turned Quarter s) refl refl (λ x y l m. refl)
quarter_after Half s = same_in_box (turned Half s) (turned Quarter (turned Quarter s)) refl refl (λ x y l m. refl)
quarter_after ThreeQuarters s =
    same_in_box (turned ThreeQuarters s) (turned Quarter (turned Half s)) refl refl (λ x y l m. ap₂ s.has refl (omega arith))

-- shapes alike have lines alike
pub line_same : (d : Direction) (s t s' t' : Shape) (o k : ℕ) → SameShape s s' → SameShape t t' → line_penalty d s t o k ≡ line_penalty d s' t' o k
unfolding line_penalty
line_same d s t s' t' o k a b =
    penalty_pixels s (point d k middle) t (point d (extent d s - 1) o) s' t' a.pixels b.pixels
    ∙ ap (λ (n : ℕ). penalty s' (point d k middle) t' (point d (n - 1) o)) (same_extent d s s' a)

module _ (a b : Shape) (t u : Turn) (o k : ℕ) where
  -- the shapes turned back by a quarter
  abbrev s : Shape
  s = turned (turn_before t) a

  abbrev r : Shape
  r = turned (turn_before u) b

  -- the line along a row
  pub row_back : 1 ≤ (turned t a).columns → k < (turned t a).columns + (turned u b).columns - 1
      → line_penalty Horizontal (turned t a) (turned u b) o k ≡ line_penalty Vertical s r o ((turned t a).columns + (turned u b).columns - 1 - 1 - k)
  row_back some there =
      let e = (quarter_after t a).columns in
      let f = (quarter_after u b).columns in
      line_same Horizontal (turned t a) (turned u b) (turned Quarter s) (turned Quarter r) o k (quarter_after t a) (quarter_after u b)
      ∙ row_quarter s r o k (omega arith) (omega arith)
      ∙ ap (line_penalty Vertical s r o) (let z : s.rows + r.rows - 1 - 1 - k ≡ (turned t a).columns + (turned u b).columns - 1 - 1 - k = omega arith in z)

  -- the line along a column
  pub column_back : (turned u b).columns ≤ wide_bound
      → line_penalty Vertical (turned t a) (turned u b) o k ≡ line_penalty Horizontal s r (middle + middle + (turned t a).columns - ((turned u b).columns + o)) k
  column_back small =
      let e = (quarter_after t a).columns in
      let f = (quarter_after u b).columns in
      line_same Vertical (turned t a) (turned u b) (turned Quarter s) (turned Quarter r) o k (quarter_after t a) (quarter_after u b)
      ∙ column_quarter s r o k (omega arith)
      ∙ ap (λ (n : ℕ). line_penalty Horizontal s r n k)
      (let z : middle + middle + s.rows - (r.rows + o) ≡ middle + middle + (turned t a).columns - ((turned u b).columns + o) = omega arith in z)

  -- the sides are exchanged
  pub sides_back : (s.rows ≡ (turned t a).columns) × (s.columns ≡ (turned t a).rows) × (r.rows ≡ (turned u b).columns) × (r.columns ≡ (turned u b).rows)
  sides_back =
      (sym (quarter_after t a).columns, sym (quarter_after t a).rows, sym (quarter_after u b).columns, sym (quarter_after u b).rows)
