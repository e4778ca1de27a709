-- A line from a row or a column of a map: where it is read, and what it holds. Assumes nothing.
use Rattle.list_laws.proofs.Kit.{◌∙◌, ◌≡◌, ap, ap₂, subst, subst₂, subst₃, sym, ◌&&◌, false, ◌⊎◌, inl, inr, List}
use Rattle.list_laws.proofs.Kit.{◌*◌, ◌+◌, ◌-◌, ◌<◌, ◌≤◌, min, ℕ, arith, get_or}
use Rattle.list_laws.proofs.Kit.{get_or-eq_default, length, mul-le-mul_right}
use native.Mathlib.Nat.{le-min}
use Rattle.list_laws.proofs.Numbers.{below_or}
use Rattle.list_laws.proofs.Tests.{first_fails, second_fails}
use Rattle.model.specs.Piece.{Shape, other, extent}
use Rattle.model.specs.declared.Direction.{Direction}
use Rattle.model.specs.declared.Direction.TheVariants.{Horizontal, Vertical}
use Rattle.search_laws.specs.Lines.{middle, line_places}
use Rattle.bit_laws.specs.Bit.{bit_in}
use Rattle.search_words.specs.Words.{Cleared}
use Rattle.search_maps.specs.declared.Sides.{Sides}
use Rattle.search_maps.specs.Map.{sides_of, columns_of, rows_of, row_width, cell_place, SidesFit, MapOf}
use Rattle.search_peel.specs.Peel.{around, EndsBy, PlaceDone}
use Rattle.search_columns.specs.Column.{byte_most, beside, ColumnWalled, Ended, ColumnEnds, ColumnDone}
use Rattle.search_columns.proofs.Counts.{beside_clear, first_done}
use Rattle.search_map_lines.specs.Line.{RowReaches, RowDone, Bordered, ByteSides, LineOf}
use Rattle.search_map_lines.proofs.Penalties.{place_penalty, column_penalty, far_penalty}

-- ── where a place ends ──

-- the distance of the nearer of the ends 0 and n
abbrev nearer : ℕ → ℕ → ℕ
nearer n k = min k (n - k)

-- a byte counts it where the ends are near each other
nearer_small : (n k : ℕ) → n ≤ 511 → nearer n k ≤ byte_most
nearer_small n k l = omega arith

-- the distance of the nearer of the clear bits of a row, from column X
abbrev wall : Sides → ℕ → ℕ
wall z X = nearer (row_width z) (X + 1)

-- the distance of the nearer of the clear rows
abbrev far : Sides → ℕ → ℕ
far z row = nearer (rows_of z + 1) row

-- as far as a byte counts, and no farther than the nearer of the clear rows
abbrev reach_of : Sides → ℕ → ℕ
reach_of z row = min byte_most (far z row)

module _ (z : Sides) (ws : List ℕ) (f : SidesFit z) (b : Bordered z ws) (row : ℕ) (low : 1 ≤ row) (high : row ≤ rows_of z) (X : ℕ)
    (inside : X < columns_of z) where
  -- one of the two bits is met
  wall_clear : beside ws (row * row_width z + X) (wall z X) ≡ false
  unfolding beside
  wall_clear = go (below_or (X + 1) (row_width z - (X + 1)))
    where
      p : ℕ
      p = row * row_width z + X

      go : (X + 1 < row_width z - (X + 1)) ⊎ (row_width z - (X + 1) ≤ X + 1) → (bit_in ws (p + wall z X) && bit_in ws (p - wall z X)) ≡ false
      go (inl l) =
          let n : row ≡ row - 1 + 1 = omega arith in
          let i : row * row_width z ≡ (row - 1 + 1) * row_width z = ap (λ (k : ℕ). k * row_width z) n in
          let k : (row - 1 + 1) * row_width z ≡ (row - 1) * row_width z + row_width z = omega arith in
          let j : p - wall z X ≡ (row - 1) * row_width z + columns_of z = omega (arith, f.moved_along.low) in
          second_fails (bit_in ws (p + wall z X)) (ap (bit_in ws) j ∙ b.ends (row - 1) (omega arith))
      go (inr l) =
          let j : p + wall z X ≡ row * row_width z + columns_of z = omega arith in
          first_fails (bit_in ws (p - wall z X)) (ap (bit_in ws) j ∙ b.ends row high)

  -- one of the two rows is met
  far_clear : around ws (row_width z) (row * row_width z + X) (far z row) ≡ false
  unfolding around
  far_clear = go (below_or row (rows_of z + 1 - row))
    where
      p : ℕ
      p = row * row_width z + X

      t : ℕ
      t = far z row

      go : (row < rows_of z + 1 - row) ⊎ (rows_of z + 1 - row ≤ row)
          → (((bit_in ws (p + t) && bit_in ws (p - t)) && bit_in ws (p + t * row_width z)) && bit_in ws (p - t * row_width z)) ≡ false
      go (inl h) =
          let e : t ≡ row = omega arith in
          let i : t * row_width z ≡ row * row_width z = ap (λ (k : ℕ). k * row_width z) e in
          let j : p - t * row_width z ≡ X = omega arith in
          second_fails ((bit_in ws (p + t) && bit_in ws (p - t)) && bit_in ws (p + t * row_width z)) (ap (bit_in ws) j ∙ b.floor X (omega arith))
      go (inr h) =
          let e : t ≡ rows_of z + 1 - row = omega arith in
          let i : t * row_width z ≡ (rows_of z + 1 - row) * row_width z = ap (λ (k : ℕ). k * row_width z) e in
          let n : row + (rows_of z + 1 - row) ≡ rows_of z + 1 = omega arith in
          let k : row * row_width z + (rows_of z + 1 - row) * row_width z ≡ (row + (rows_of z + 1 - row)) * row_width z = omega arith in
          let g : row * row_width z + t * row_width z ≡ (rows_of z + 1) * row_width z = (let m = k ∙ ap (λ (k : ℕ). k * row_width z) n in omega arith) in
          let j : p + t * row_width z ≡ (rows_of z + 1) * row_width z + X = omega arith in
          first_fails (bit_in ws (p - t * row_width z)) (second_fails (bit_in ws (p + t) && bit_in ws (p - t)) (ap (bit_in ws) j ∙ b.top X (omega arith)))

  -- within the reach the place ends: where both rows are farther off than a byte counts, the sides across are long, so a bit of its own row is near
  place_ends : ByteSides z → EndsBy ws (row_width z) (row * row_width z + X) (reach_of z row)
  place_ends sides = go (below_or byte_most (far z row))
    where
      near : (z.moved_along + z.standing_along ≤ 511) ⊎ (z.moved_across + z.standing_across ≤ 511) → byte_most < far z row → wall z X ≤ byte_most
      near (inl s) h = nearer_small (row_width z) (X + 1) s
      near (inr s) h =
          let n : rows_of z + 1 ≤ 511 = omega (arith, f.moved_across.low) in
          let k = nearer_small (rows_of z + 1) row n in
          absurd (omega arith)

      go : (byte_most < far z row) ⊎ (far z row ≤ byte_most) → EndsBy ws (row_width z) (row * row_width z + X) (reach_of z row)
      go (inl h) =
          let n = near sides.small h in
          record {
            at = wall z X;
            some = le-min (omega arith) (omega arith);
            near = le-min n (omega arith);
            clear = beside_clear ws (row_width z) (row * row_width z + X) (wall z X) wall_clear;
          }
      go (inr h) =
          record {
            at = far z row;
            some = le-min low (omega arith);
            near = le-min h (omega arith);
            clear = far_clear;
          }

-- ── where a row is read ──

module _ (z : Sides) (ws : List ℕ) (f : SidesFit z) (small : ByteSides z) (b : Bordered z ws) (row : ℕ) (low : 1 ≤ row) (high : row ≤ rows_of z) where
  -- all of it lies in the map
  far_in : (row + far z row) * row_width z ≤ (rows_of z + 1) * row_width z
  far_in = mul-le-mul_right (row_width z) (omega arith)

  -- the row can be read so far
  row_read : RowReaches ws (row_width z) (row * row_width z) (columns_of z)
  row_read =
      let i = far_in in
      let h : reach_of z row * row_width z ≤ far z row * row_width z = mul-le-mul_right (row_width z) (omega arith) in
      let j : (row + far z row) * row_width z ≡ row * row_width z + far z row * row_width z = omega arith in
      let k : (z.moved_across + z.standing_across + 1) * row_width z
      ≡ (z.moved_across + z.standing_across) * row_width z + row_width z = omega arith in
      let n : rows_of z + 1 ≡ z.moved_across + z.standing_across = omega (arith, f.moved_across.low) in
      let q : (rows_of z + 1) * row_width z ≡ (z.moved_across + z.standing_across) * row_width z = ap (λ (k : ℕ). k * row_width z) n in
      let r = b.room in
      record {
        reach = reach_of z row;
        wide = omega (arith, f.moved_along.low);
        short = omega arith;
        low = mul-le-mul_right (row_width z) (omega arith);
        high = omega (arith, f.moved_along.low);
        room = b.short;
        ends = λ x l. place_ends z ws f b row low high x l small;
      }

  -- so it is for the width that the code has
  pub row_reaches : (w : ℕ) → w ≡ row_width z → RowReaches ws w (row * w) (w - 1)
  row_reaches w e = subst (λ (k : ℕ). RowReaches ws k (row * k) (k - 1)) (sym e) row_read

-- the row's place is small
pub row_small : (z : Sides) (row w : ℕ) → SidesFit z → w ≡ row_width z → row ≤ rows_of z → (row * w ≤ 541 * w) × (w ≤ 542)
row_small z row w f e h =
    (mul-le-mul_right w (omega (arith, f.moved_across.high, f.standing_across.high)), omega (arith, f.moved_along.high, f.standing_along.high))

-- ── what a line holds ──

-- no row or column of cells: all is 0
far_holds : (d : Direction) (s t : Shape) (offset places : ℕ) (xs ys : List ℕ) → places ≡ line_places d s t → Cleared places xs ys
    → (middle + extent (other d) s ≤ offset) ⊎ (offset + extent (other d) t ≤ middle) → LineOf d s t offset xs ys
far_holds d s t offset places xs ys e k far =
    record {
      same = k.same;
      line = λ i l.
          let q : 0 + i ≡ i = omega arith in
          ap (λ (n : ℕ). get_or ys n 0) q ∙ k.zero i (omega arith) ∙ sym (far_penalty d s t offset i far);
      after = λ i l. k.rest i (omega arith);
    }

pub far_line : (d : Direction) (s t : Shape) (z : Sides) (offset w : ℕ) (xs ys : List ℕ) → z ≡ sides_of d s t → w ≡ row_width z → Cleared (w - 1) xs ys
    → (middle + z.moved_across ≤ offset) ⊎ (offset + z.standing_across ≤ middle) → LineOf d s t offset xs ys
far_line d s t z offset w xs ys ez ew k h =
    far_holds d s t offset (w - 1) xs ys (ap (λ (n : ℕ). n - 1) (ew ∙ ap row_width ez)) k
    (subst (λ (y : Sides). (middle + y.moved_across ≤ offset) ⊎ (offset + y.standing_across ≤ middle)) ez h)

pub far_column : (s t : Shape) (z : Sides) (offset : ℕ) (xs ys : List ℕ) → z ≡ sides_of Horizontal s t → rows_of z ≡ length xs → Cleared (length xs) xs ys
    → (middle + z.moved_along ≤ offset) ⊎ (offset + z.standing_along ≤ middle) → LineOf Vertical s t offset xs ys
far_column s t z offset xs ys ez n k h =
    far_holds Vertical s t offset (length xs) xs ys (sym n ∙ ap rows_of ez) k
    (subst (λ (y : Sides). (middle + y.moved_along ≤ offset) ⊎ (offset + y.standing_along ≤ middle)) ez h)

-- the row of cells at the offset
pub near_line : (d : Direction) (s t : Shape) (z : Sides) (ws : List ℕ) (offset w row : ℕ) (xs ys zs : List ℕ) → z ≡ sides_of d s t → w ≡ row_width z
    → SidesFit z → MapOf d s t ws → 1 ≤ row → row ≤ rows_of z → row + offset ≡ middle + z.moved_across → Cleared (w - 1) xs ys
    → RowDone ws w (row * w) (w - 1) ys zs → LineOf d s t offset xs zs
near_line d s t z ws offset w row xs ys zs ez ew f m low high at k g =
    let e : w ≡ row_width (sides_of d s t) = ew ∙ ap row_width ez in
    let f' : SidesFit (sides_of d s t) = subst SidesFit ez f in
    let high' : row ≤ rows_of (sides_of d s t) = subst (λ (y : Sides). row ≤ rows_of y) ez high in
    let at' : row + offset ≡ middle + extent (other d) s = subst (λ (y : Sides). row + offset ≡ middle + y.moved_across) ez at in
    record {
      same = g.same ∙ k.same;
      line = λ i l.
          let q : 0 + i ≡ i = omega arith in
          let r : row ≡ row - 1 + 1 = omega arith in
          let p : row * w + i ≡ cell_place (sides_of d s t) i (row - 1) = ap₂ (λ (a b : ℕ). a * b + i) r e in
          let old : get_or ys i 0 ≡ 0 = k.zero i (omega arith) in
          let done : PlaceDone ws (row_width (sides_of d s t)) (cell_place (sides_of d s t) i (row - 1)) 0 (get_or zs i 0) =
          subst₃ (λ (a b c : ℕ). PlaceDone ws a b c (get_or zs i 0)) e p old (g.each i (omega arith)) in
          ap (λ (n : ℕ). get_or zs n 0) q
          ∙ place_penalty d s t ws m f' i (row - 1) offset (get_or zs i 0) (omega arith) (omega arith) (omega (arith, f'.moved_across.low)) done;
      after = λ i l. g.after i (omega arith) ∙ k.rest i (omega arith);
    }

-- ── where a column is read ──

module _ (z : Sides) (ws : List ℕ) (f : SidesFit z) (small : ByteSides z) (b : Bordered z ws) (X : ℕ) (inside : X < columns_of z) where
  -- all of it lies in the map
  rows_in : (rows_of z + 2) * row_width z + 128 ≤ length ws * 64
  rows_in =
      let n : rows_of z + 2 ≡ z.moved_across + z.standing_across + 1 = omega (arith, f.moved_across.low) in
      let q : (rows_of z + 2) * row_width z ≡ (z.moved_across + z.standing_across + 1) * row_width z = ap (λ (k : ℕ). k * row_width z) n in
      omega (arith, b.room)

  -- a place of the column in its row
  place_in : (y : ℕ) → row_width z + X + y * row_width z ≡ (y + 1) * row_width z + X
  place_in y = omega arith

  -- so each place of the column can be read
  column_walled : ColumnWalled ws (row_width z) (row_width z + X) (rows_of z)
  column_walled =
      let r = rows_in in
      let o : (rows_of z + 2) * row_width z ≡ rows_of z * row_width z + (row_width z + row_width z) = omega arith in
      record {
        each = λ y l.
            let k : (y + 1) * row_width z ≤ rows_of z * row_width z = mul-le-mul_right (row_width z) (omega arith) in
            let i : (y + 1) * row_width z ≡ y * row_width z + row_width z = omega arith in
            let p = place_in y in
            record {
              reach = wall z X;
              clear = ap (λ (q : ℕ). beside ws q (wall z X)) p ∙ wall_clear z ws f b (y + 1) (omega arith) (omega arith) X inside;
              low = omega arith;
              high = omega arith;
              room = b.short;
            };
        small = (let n = rows_few in omega arith);
      }
    where
      rows_few : (rows_of z * row_width z ≤ 541 * row_width z) × (row_width z ≤ 542)
      rows_few = (
        mul-le-mul_right (row_width z) (omega (arith, f.moved_across.high, f.standing_across.high)),
        omega (arith, f.moved_along.high, f.standing_along.high),
      )

  -- it ends at the clear rows
  column_ended : Ended ws (row_width z) (row_width z + X) (rows_of z)
  column_ended =
      let i : row_width z + X - row_width z ≡ X = omega arith in
      let j : row_width z + X + rows_of z * row_width z ≡ (rows_of z + 1) * row_width z + X = omega arith in
      record {
        past = omega arith;
        floor = ap (bit_in ws) i ∙ b.floor X (omega arith);
        top = ap (bit_in ws) j ∙ b.top X (omega arith);
      }

  -- each of its places ends as far off as a byte counts
  column_ends : ColumnEnds ws (row_width z) (row_width z + X) (rows_of z)
  column_ends =
      record {
        each = λ y l.
            let e = place_ends z ws f b (y + 1) (omega arith) (omega arith) X inside small in
            record {
              at = e.at;
              some = e.some;
              near = omega (arith, e.near);
              clear = ap (λ (q : ℕ). around ws (row_width z) q e.at) (place_in y) ∙ e.clear;
            };
      }

  -- so it is for the width and the places that the code has
  pub column_reaches : (w n : ℕ) → w ≡ row_width z → n ≡ rows_of z → ColumnWalled ws w (w + X) n × Ended ws w (w + X) n × ColumnEnds ws w (w + X) n
  column_reaches w n e g =
      subst₂ (λ (k m : ℕ). ColumnWalled ws k (k + X) m × Ended ws k (k + X) m × ColumnEnds ws k (k + X) m) (sym e) (sym g)
      (column_walled, column_ended, column_ends)

-- the column of cells at the offset
pub near_column : (s t : Shape) (z : Sides) (ws : List ℕ) (offset w X : ℕ) (xs ys zs : List ℕ) → z ≡ sides_of Horizontal s t → w ≡ row_width z
    → SidesFit z → MapOf Horizontal s t ws → X < columns_of z → X + offset ≡ middle + (z.moved_along - 1) → rows_of z ≡ length xs
    → length ys ≡ length xs → ColumnDone ws w (w + X) ys zs → LineOf Vertical s t offset xs zs
near_column s t z ws offset w X xs ys zs ez ew f m inside at n same g =
    let e : w ≡ row_width (sides_of Horizontal s t) = ew ∙ ap row_width ez in
    let f' : SidesFit (sides_of Horizontal s t) = subst SidesFit ez f in
    let inside' : X < columns_of (sides_of Horizontal s t) = subst (λ (y : Sides). X < columns_of y) ez inside in
    let at' : X + offset ≡ middle + (s.columns - 1) = subst (λ (y : Sides). X + offset ≡ middle + (y.moved_along - 1)) ez at in
    let places : rows_of (sides_of Horizontal s t) ≡ length xs = sym (ap rows_of ez) ∙ n in
    let long = g.same in
    record {
      same = g.same ∙ same;
      line = λ i l.
          let q : 0 + i ≡ i = omega arith in
          let p : w + X + i * w ≡ (i + 1) * w + X = omega arith in
          let p' : w + X + i * w ≡ cell_place (sides_of Horizontal s t) X i = p ∙ ap (λ (k : ℕ). (i + 1) * k + X) e in
          let done : PlaceDone ws (row_width (sides_of Horizontal s t)) (cell_place (sides_of Horizontal s t) X i) 0 (get_or zs i 0) =
          subst₂ (λ (a c : ℕ). PlaceDone ws a c 0 (get_or zs i 0)) e p' (first_done ws w (w + X + i * w) (get_or zs i 0) (g.each i (omega arith))) in
          ap (λ (k : ℕ). get_or zs k 0) q
          ∙ column_penalty s t ws m f' X i offset (get_or zs i 0) inside' (omega arith) at' done;
      after = λ i l.
          get_or-eq_default zs 0 (omega arith) ∙ sym (get_or-eq_default xs 0 (omega arith));
    }
