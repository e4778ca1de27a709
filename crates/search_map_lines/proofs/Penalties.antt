-- The distance of a set cell to a clear bit is the penalty of the two pieces at that cell: a step along the row is a shift along the direction,
-- a step across the rows one across it. Assumes nothing.
use Rattle.list_laws.proofs.Kit.{◌∙◌, ◌≡◌, ap, refl, subst, sym, ◌&&◌, false, true, ◌⊎◌, inl, inr, ⊎_elim, List, ◌*◌, ◌+◌, ◌-◌, ◌<◌, ◌≤◌, ℕ, arith}
use Rattle.list_laws.proofs.Kit.{by_contra, le_antisymm}
use Rattle.list_laws.proofs.Tests.{and_left, and_right, and_both, clash, decided, fails}
use Rattle.model.specs.Piece.{Point, Shape, other, point, shift, extent}
use Rattle.model.specs.Overlap.{share, depth, penalty}
use Rattle.model.specs.declared.Direction.{Direction}
use Rattle.model.specs.declared.Direction.TheVariants.{Horizontal, Vertical}
use Rattle.strip_laws.proofs.Boxes.{along_point, across_point, box_along, box_across, pixel_in_box}
use Rattle.overlap_laws.specs.Overlap.{SharedPixel}
use Rattle.overlap_laws.proofs.Share.{share_witness, share_difference, shared_along, shared_across, same_difference}
use Rattle.overlap_laws.proofs.Depth.{depth_before, depth_parts}
use Rattle.overlap_laws.proofs.Penalty.{penalty_le, penalty_attained, penalty_zero, zero_penalty, penalty_difference}
use Rattle.search_laws.specs.Lines.{middle, line_penalty}
use Rattle.bit_laws.specs.Bit.{bit_in}
use Rattle.search_maps.specs.Map.{sides_of, columns_of, rows_of, row_width, cell_place, shared_at, SidesFit, MapOf}
use Rattle.search_peel.specs.Peel.{around, Distance, PlaceDone}
use Rattle.search_map_lines.proofs.Grid.{bit_shared, floor_clear, top_clear, gap_clear}

-- ── shifted corners ──

-- a corner shifted along the direction
shift_along : (d : Direction) (k a c : ℕ) → shift d k (point d a c) ≡ point d (a + k) c
shift_along Horizontal k a c = refl
shift_along Vertical k a c = refl

-- and across it
shift_across : (d : Direction) (k a c : ℕ) → shift (other d) k (point d a c) ≡ point d a (c + k)
shift_across Horizontal k a c = refl
shift_across Vertical k a c = refl

-- the penalty is one of the two depths, whichever direction is named first
one_depth : (d : Direction) (s : Shape) (u : Point) (t : Shape) (v : Point)
    → (penalty s u t v ≡ depth d s u t v) ⊎ (penalty s u t v ≡ depth (other d) s u t v)
one_depth Horizontal s u t v = penalty_attained s u t v
one_depth Vertical s u t v = ⊎_elim inr inl (penalty_attained s u t v)

module _ (d : Direction) (s t : Shape) (a c a' c' b e b' e' : ℕ) where
  -- corners with the same differences along and across share alike
  share_moved : a + b' ≡ a' + b → c + e' ≡ c' + e → share s (point d a c) t (point d b e) ≡ share s (point d a' c') t (point d b' e')
  share_moved x y =
      share_difference s (point d a c) t (point d b e) (point d a' c') (point d b' e')
      (same_difference d (point d a c) (point d b e) (point d a' c') (point d b' e')
      (omega (arith, along_point d a c, along_point d b e, along_point d a' c', along_point d b' e'))
      (omega (arith, across_point d a c, across_point d b e, across_point d a' c', across_point d b' e')))

-- where pixels are shared, the corners differ by less than a side
module _ (d : Direction) (s t : Shape) (a c b e : ℕ) (h : share s (point d a c) t (point d b e) ≡ true) where
  -- along and across
  pub share_near : (b < a + extent d s) × (a < b + extent d t) × (e < c + extent (other d) s) × (c < e + extent (other d) t)
  share_near =
      let k : SharedPixel s (point d a c) t (point d b e) = share_witness s (point d a c) t (point d b e) h in
      let x = shared_along d k in
      let y = shared_across d k in
      let i = pixel_in_box s k.p k.of_first in
      let j = pixel_in_box t k.q k.of_second in
      let px = box_along d s k.p i in
      let py = box_across d s k.p i in
      let qx = box_along d t k.q j in
      let qy = box_across d t k.q j in
      let ux = along_point d a c in
      let uy = across_point d a c in
      let vx = along_point d b e in
      let vy = across_point d b e in
      (omega arith, omega arith, omega arith, omega arith)

-- ── the four sides of a cell ──

module _ (d : Direction) (s t : Shape) (ws : List ℕ) (m : MapOf d s t ws) (f : SidesFit (sides_of d s t)) (X Y : ℕ)
    (column : X < columns_of (sides_of d s t)) (row : Y < rows_of (sides_of d s t))
  where
    -- the corners at the cell, and the cell's place
    abbrev moved : Point
    moved = point d X Y

    abbrev standing : Point
    standing = point d (extent d s - 1) (extent (other d) s - 1)

    abbrev place : ℕ
    place = cell_place (sides_of d s t) X Y

    abbrev w : ℕ
    w = row_width (sides_of d s t)

    -- k to the right
    right : (k : ℕ) → X + k ≤ columns_of (sides_of d s t) → bit_in ws (place + k) ≡ share s (shift d k moved) t standing
    right k l =
        let e : place + k ≡ cell_place (sides_of d s t) (X + k) Y = omega arith in
        ap (bit_in ws) e ∙ bit_shared d s t ws m f (X + k) Y (omega (arith, f.moved_along.low)) (omega arith)
        ∙ ap (λ (u : Point). share s u t standing) (sym (shift_along d k X Y))

    -- k to the left
    left : (k : ℕ) → k ≤ X → bit_in ws (place - k) ≡ share s moved t (shift d k standing)
    left k l =
        let e : place - k ≡ cell_place (sides_of d s t) (X - k) Y = omega arith in
        ap (bit_in ws) e ∙ bit_shared d s t ws m f (X - k) Y (omega arith) (omega arith)
        ∙ share_moved d s t (X - k) Y X Y (extent d s - 1) (extent (other d) s - 1) (extent d s - 1 + k) (extent (other d) s - 1) (omega arith) (omega arith)
        ∙ ap (λ (v : Point). share s moved t v) (sym (shift_along d k (extent d s - 1) (extent (other d) s - 1)))

    -- k rows up
    above : (k : ℕ) → Y + k ≤ rows_of (sides_of d s t) → bit_in ws (place + k * w) ≡ share s (shift (other d) k moved) t standing
    above k l =
        let e : place + k * w ≡ cell_place (sides_of d s t) X (Y + k) = omega arith in
        ap (bit_in ws) e ∙ bit_shared d s t ws m f X (Y + k) (omega arith) l
        ∙ ap (λ (u : Point). share s u t standing) (sym (shift_across d k X Y))

    -- k rows down
    below : (k : ℕ) → k ≤ Y → bit_in ws (place - k * w) ≡ share s moved t (shift (other d) k standing)
    below k l =
        let q : (Y - k + k + 1) * w ≡ (Y - k + 1) * w + k * w = omega arith in
        let i : Y - k + k ≡ Y = omega arith in
        let j : (Y + 1) * w ≡ (Y - k + 1) * w + k * w = ap (λ (n : ℕ). (n + 1) * w) (sym i) ∙ q in
        let e : place - k * w ≡ cell_place (sides_of d s t) X (Y - k) = omega arith in
        ap (bit_in ws) e ∙ bit_shared d s t ws m f X (Y - k) (omega arith) (omega arith)
        ∙ share_moved d s t X (Y - k) X Y (extent d s - 1) (extent (other d) s - 1) (extent d s - 1) (extent (other d) s - 1 + k) (omega arith) (omega arith)
        ∙ ap (λ (v : Point). share s moved t v) (sym (shift_across d k (extent d s - 1) (extent (other d) s - 1)))

    -- where pixels are shared after a shift by k, the shifted cell is one of the map
    near : (k : ℕ)
        → (share s moved t (shift d k standing) ≡ true) × (share s (shift d k moved) t standing ≡ true)
        → (share s moved t (shift (other d) k standing) ≡ true) × (share s (shift (other d) k moved) t standing ≡ true)
        → (k ≤ X) × (X + k ≤ columns_of (sides_of d s t)) × (k ≤ Y) × (Y + k ≤ rows_of (sides_of d s t))
    near k a c =
        let A = extent d s in
        let H = extent (other d) s in
        let l = share_near d s t X Y (A - 1 + k) (H - 1) (ap (λ (v : Point). share s moved t v) (sym (shift_along d k (A - 1) (H - 1))) ∙ a.0) in
        let r = share_near d s t (X + k) Y (A - 1) (H - 1) (ap (λ (u : Point). share s u t standing) (sym (shift_along d k X Y)) ∙ a.1) in
        let b = share_near d s t X Y (A - 1) (H - 1 + k) (ap (λ (v : Point). share s moved t v) (sym (shift_across d k (A - 1) (H - 1))) ∙ c.0) in
        let u = share_near d s t X (Y + k) (A - 1) (H - 1) (ap (λ (u : Point). share s u t standing) (sym (shift_across d k X Y)) ∙ c.1) in
        let o = f.moved_along.low in
        let n = f.moved_across.low in
        (omega arith, omega arith, omega arith, omega arith)

    -- what is set around, taken apart
    sides : (k : ℕ) → around ws w place k ≡ true
        → (bit_in ws (place + k) ≡ true) × (bit_in ws (place - k) ≡ true) × (bit_in ws (place + k * w) ≡ true) × (bit_in ws (place - k * w) ≡ true)
    unfolding around
    sides k e =
        let three = and_left ((bit_in ws (place + k) && bit_in ws (place - k)) && bit_in ws (place + k * w)) (bit_in ws (place - k * w)) e in
        let two = and_left (bit_in ws (place + k) && bit_in ws (place - k)) (bit_in ws (place + k * w)) three in (
          and_left (bit_in ws (place + k)) (bit_in ws (place - k)) two,
          and_right (bit_in ws (place + k)) (bit_in ws (place - k)) two,
          and_right (bit_in ws (place + k) && bit_in ws (place - k)) (bit_in ws (place + k * w)) three,
          and_right ((bit_in ws (place + k) && bit_in ws (place - k)) && bit_in ws (place + k * w)) (bit_in ws (place - k * w)) e,
        )

    -- below both depths all four sides are set
    around_before : (k : ℕ) → k < penalty s moved t standing → around ws w place k ≡ true
    unfolding around
    around_before k l =
        let a = depth_before d s moved t standing k (omega (arith, penalty_le s moved t standing d)) in
        let c = depth_before (other d) s moved t standing k (omega (arith, penalty_le s moved t standing (other d))) in
        let n = near k a c in
        and_both (and_both (and_both (right k n.1 ∙ a.1) (left k n.0 ∙ a.0)) (above k n.3 ∙ c.1)) (below k n.2 ∙ c.0)

    module _ (n : ℕ) (q : Distance ws w place n) where
      -- a distance at which a side is known to be clear is no nearer
      not_past : (k : ℕ) → 1 ≤ k
          → (bit_in ws (place + k) ≡ false) ⊎ (bit_in ws (place - k) ≡ false) ⊎ (bit_in ws (place + k * w) ≡ false) ⊎ (bit_in ws (place - k * w) ≡ false)
          → n ≤ k
      not_past k o h = by_contra n k (λ l. let e = sides k (q.before k o l) in go e h)
        where
          go : (bit_in ws (place + k) ≡ true) × (bit_in ws (place - k) ≡ true) × (bit_in ws (place + k * w) ≡ true) × (bit_in ws (place - k * w) ≡ true)
              → (bit_in ws (place + k) ≡ false) ⊎ (bit_in ws (place - k) ≡ false) ⊎ (bit_in ws (place + k * w) ≡ false) ⊎ (bit_in ws (place - k * w) ≡ false) → ⊥
          go e (inl h) = clash e.0 h
          go e (inr (inl h)) = clash e.1 h
          go e (inr (inr (inl h))) = clash e.2 h
          go e (inr (inr (inr h))) = clash e.3 h

      -- the border is not passed
      to_right : X + n ≤ columns_of (sides_of d s t)
      to_right =
          let k : ℕ = columns_of (sides_of d s t) - X in
          let e : place + k ≡ (Y + 1) * w + columns_of (sides_of d s t) = omega arith in
          let h = not_past k (omega arith) (inl (ap (bit_in ws) e ∙ gap_clear d s t ws m f (Y + 1) (omega arith))) in
          omega arith

      to_left : n ≤ X + 1
      to_left =
          let i : (Y + 1) * w ≡ Y * w + w = omega arith in
          let e : place - (X + 1) ≡ Y * w + columns_of (sides_of d s t) = omega (arith, f.moved_along.low) in
          not_past (X + 1) (omega arith) (inr (inl (ap (bit_in ws) e ∙ gap_clear d s t ws m f Y (omega arith))))

      to_top : Y + n ≤ rows_of (sides_of d s t)
      to_top =
          let k : ℕ = rows_of (sides_of d s t) - Y in
          let j : Y + k ≡ rows_of (sides_of d s t) = omega arith in
          let i : (Y + 1) * w + k * w ≡ (Y + k + 1) * w = omega arith in
          let e : place + k * w ≡ (rows_of (sides_of d s t) + 1) * w + X = (let z = i ∙ ap (λ (y : ℕ). (y + 1) * w) j in omega arith) in
          let h = not_past k (omega arith) (inr (inr (inl (ap (bit_in ws) e ∙ top_clear d s t ws m f X (omega arith))))) in
          omega arith

      to_floor : n ≤ Y + 1
      to_floor =
          let e : place - (Y + 1) * w ≡ X = omega arith in
          not_past (Y + 1) (omega arith) (inr (inr (inr (ap (bit_in ws) e ∙ floor_clear d s t ws m f X (omega arith)))))

      -- the distance is no less than the penalty
      distance_least : penalty s moved t standing ≤ n
      distance_least = by_contra (penalty s moved t standing) n (λ l. clash (around_before n l) q.here)

      -- and no more, for a set cell
      distance_most : share s moved t standing ≡ true → n ≤ penalty s moved t standing
      distance_most h = by_contra n (penalty s moved t standing) (λ l. go l (one_depth d s moved t standing))
        where
          -- the penalty is at least 1
          some : 1 ≤ penalty s moved t standing
          some = by_contra 1 (penalty s moved t standing) (λ l. clash h (zero_penalty s moved t standing (omega arith)))

          -- they do not part in a direction in which both shifts share a pixel
          parted : (e : Direction) → penalty s moved t standing ≡ depth e s moved t standing
              → share s moved t (shift e (penalty s moved t standing) standing) ≡ true
              → share s (shift e (penalty s moved t standing) moved) t standing ≡ true → ⊥
          parted e i a c =
              ⊎_elim (clash a) (clash c)
              (subst (λ (k : ℕ). (share s moved t (shift e k standing) ≡ false) ⊎ (share s (shift e k moved) t standing ≡ false)) (sym i)
              (depth_parts e s moved t standing))

          go : penalty s moved t standing < n
              → (penalty s moved t standing ≡ depth d s moved t standing) ⊎ (penalty s moved t standing ≡ depth (other d) s moved t standing) → ⊥
          go l (inl i) =
              let b = sides (penalty s moved t standing) (q.before (penalty s moved t standing) some l) in
              let x = to_left in
              let y = to_right in
              parted d i (sym (left (penalty s moved t standing) (omega arith)) ∙ b.1) (sym (right (penalty s moved t standing) (omega arith)) ∙ b.0)
          go l (inr i) =
              let b = sides (penalty s moved t standing) (q.before (penalty s moved t standing) some l) in
              let x = to_floor in
              let y = to_top in
              parted (other d) i (sym (below (penalty s moved t standing) (omega arith)) ∙ b.3)
              (sym (above (penalty s moved t standing) (omega arith)) ∙ b.2)

      pub distance_penalty : share s moved t standing ≡ true → n ≡ penalty s moved t standing
      distance_penalty h = le_antisymm (distance_most h) distance_least

-- ── the line ──

module _ (d : Direction) (s t : Shape) (ws : List ℕ) (m : MapOf d s t ws) (f : SidesFit (sides_of d s t)) where
  -- a cell that is done holds the penalty there
  cell_penalty : (X Y new : ℕ) → X < columns_of (sides_of d s t) → Y < rows_of (sides_of d s t)
      → PlaceDone ws (row_width (sides_of d s t)) (cell_place (sides_of d s t) X Y) 0 new
      → new ≡ penalty s (point d X Y) t (point d (extent d s - 1) (extent (other d) s - 1))
  cell_penalty X Y new l k q = at_cell (decided (shared_at d s t X Y))
    where
      at_cell : (shared_at d s t X Y ≡ true) ⊎ (shared_at d s t X Y ≡ false)
          → new ≡ penalty s (point d X Y) t (point d (extent d s - 1) (extent (other d) s - 1))
      at_cell (inl h) = distance_penalty d s t ws m f X Y l k new (q.marked (m.cells X Y l k ∙ h)) h
      at_cell (inr h) =
          q.clear (m.cells X Y l k ∙ h) ∙ sym (penalty_zero s (point d X Y) t (point d (extent d s - 1) (extent (other d) s - 1)) h)

  -- it is that of the line along its row
  pub place_penalty : (X Y offset new : ℕ) → X < columns_of (sides_of d s t) → Y < rows_of (sides_of d s t) → Y + offset ≡ middle + (extent (other d) s - 1)
      → PlaceDone ws (row_width (sides_of d s t)) (cell_place (sides_of d s t) X Y) 0 new → new ≡ line_penalty d s t offset X
  unfolding line_penalty
  place_penalty X Y offset new l k e q =
      let A = extent d s - 1 in
      let H = extent (other d) s - 1 in
      cell_penalty X Y new l k q
      ∙ penalty_difference s (point d X Y) t (point d A H) (point d X middle) (point d A offset)
      (same_difference d (point d X Y) (point d A H) (point d X middle) (point d A offset)
      (omega (arith, along_point d X Y, along_point d A H, along_point d X middle, along_point d A offset))
      (omega (arith, across_point d X Y, across_point d A H, across_point d X middle, across_point d A offset)))

-- in a map along rows it is also that of the line along its column
pub column_penalty : (s t : Shape) (ws : List ℕ) → MapOf Horizontal s t ws → SidesFit (sides_of Horizontal s t) → (X Y offset new : ℕ)
    → X < columns_of (sides_of Horizontal s t) → Y < rows_of (sides_of Horizontal s t) → X + offset ≡ middle + (s.columns - 1)
    → PlaceDone ws (row_width (sides_of Horizontal s t)) (cell_place (sides_of Horizontal s t) X Y) 0 new → new ≡ line_penalty Vertical s t offset Y
unfolding line_penalty
column_penalty s t ws m f X Y offset new l k e q =
    let A = s.columns - 1 in
    let H = s.rows - 1 in
    cell_penalty Horizontal s t ws m f X Y new l k q
    ∙ penalty_difference s (point Horizontal X Y) t (point Horizontal A H) (point Vertical Y middle) (point Vertical H offset)
    (same_difference Horizontal (point Horizontal X Y) (point Horizontal A H) (point Vertical Y middle) (point Vertical H offset) (omega arith) (omega arith))

-- where the boxes do not meet across, the penalty is 0
pub far_penalty : (d : Direction) (s t : Shape) (offset k : ℕ) → (middle + extent (other d) s ≤ offset) ⊎ (offset + extent (other d) t ≤ middle)
    → line_penalty d s t offset k ≡ 0
unfolding line_penalty
far_penalty d s t offset k h =
    penalty_zero s (point d k middle) t (point d (extent d s - 1) offset)
    (fails _ (λ e.
    let n = share_near d s t k middle (extent d s - 1) offset e in
    ⊎_elim (λ (l : middle + extent (other d) s ≤ offset). omega arith) (λ (l : offset + extent (other d) t ≤ middle). omega arith) h))
