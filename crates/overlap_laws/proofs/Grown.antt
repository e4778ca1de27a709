-- Document 02, point 4: two pieces conflict by a gap g exactly where they share a pixel once each is grown by g to the right and up. Let p and q be pixels
-- at most g columns and rows apart: whichever lies further left or further down is made good by the growth of that one, so the grown shapes
-- meet at the larger of the two coordinates. And a pixel that both grown shapes have comes from two pixels at most g to its left and below it. The
-- depths and the penalty follow. Instead of both growing by g, one may grow by g on every side: that is by 2g to the right and up, with the other's
-- corner g further up and to the right. Assumes nothing.
use Rattle.list_laws.proofs.Kit.{◌∙◌, ◌≡◌, refl, sym, ◌&&◌, true, Bool, ◌↔◌, ◌+◌, ◌-◌, ◌≤◌}
use Rattle.list_laws.proofs.Kit.{suc, ℕ, arith, leb, le-leb, leb-true, max}
use Rattle.list_laws.proofs.Tests.{and_left, and_right, and_both, same_tests}
use Rattle.list_laws.proofs.Bounded.{any_witness, any_from}
use Rattle.list_laws.proofs.Firsts.{first_agree}
use Rattle.model.specs.Bounded.{any_below}
use Rattle.model.specs.Piece.{Point, Shape, pixel, covers, along, across, shift, extent}
use Rattle.model.specs.Overlap.{share, within, near_to, conflict, apart_at, free_at, depth, penalty, conflict_depth, conflict_penalty}
use Rattle.model.specs.declared.Direction.{Direction}
use Rattle.model.specs.declared.Direction.TheVariants.{Horizontal, Vertical}
use Rattle.overlap_laws.specs.Overlap.{SharedPixel, NearPixels, raised}
use Rattle.overlap_laws.specs.Grown.{grown, grown_has}
use Rattle.overlap_laws.proofs.Share.{PixelOf, pixel_facts, pixel_from, Covered, covers_witness, covers_from}
use Rattle.overlap_laws.proofs.Share.{share_witness, share_from, SamePixels}

-- ── conflict, over pixels ──

-- numbers at most g apart
pub within_facts : (g a b : ℕ) → within g a b ≡ true → (a ≤ b + g) × (b ≤ a + g)
within_facts g a b e =
    (leb-true _ _ (and_left _ (leb b (a + g)) e), leb-true _ _ (and_right (leb a (b + g)) _ e))

pub within_from : (g a b : ℕ) → a ≤ b + g → b ≤ a + g → within g a b ≡ true
within_from g a b h k = and_both (le-leb _ _ h) (le-leb _ _ k)

-- where the search says that they conflict, there are two pixels at most g columns and g rows apart
pub conflict_witness : (g : ℕ) (s : Shape) (u : Point) (t : Shape) (v : Point) → conflict g s u t v ≡ true → NearPixels g s u t v
unfolding conflict near_to
conflict_witness g s u t v e =
    let in_row = any_witness s.rows _ e in
    let y = in_row.number in
    let in-column = any_witness s.columns _ in_row.passing in
    let x = in-column.number in
    let near = and_right (s.has x y) _ in-column.passing in
    let other_row = any_witness t.rows _ near in
    let b = other_row.number in
    let other-column = any_witness t.columns _ other_row.passing in
    let a = other-column.number in
    let both = and_left _ (within g (v.y + b) (u.y + y)) other-column.passing in
    let columns = within_facts g (v.x + a) (u.x + x) (and_right (t.has a b) _ both) in
    let rows = within_facts g (v.y + b) (u.y + y) (and_right (t.has a b && within g (v.x + a) (u.x + x)) _ other-column.passing) in
    record {
      p = record { x = x; y = y };
      q = record { x = a; y = b };
      of_first = pixel_from s _ (record { column = in-column.below; row = in_row.below; present = and_left (s.has x y) _ in-column.passing });
      of_second = pixel_from t _ (record { column = other-column.below; row = other_row.below; present = and_left (t.has a b) _ both });
      left = columns.1;
      right = columns.0;
      below = rows.1;
      above = rows.0;
    }

-- where there are two such pixels, the search finds one
pub conflict_from : (g : ℕ) (s : Shape) (u : Point) (t : Shape) (v : Point) → NearPixels g s u t v → conflict g s u t v ≡ true
unfolding conflict near_to
conflict_from g s u t v w =
    let f : PixelOf s w.p = pixel_facts s w.p w.of_first in
    let h : PixelOf t w.q = pixel_facts t w.q w.of_second in
    any_from s.rows w.p.y _ f.row
    (any_from s.columns w.p.x _ f.column
    (and_both f.present
    (any_from t.rows w.q.y _ h.row
    (any_from t.columns w.q.x _ h.column
    (and_both (and_both h.present (within_from g _ _ w.right w.left)) (within_from g _ _ w.above w.below))))))

-- they conflict exactly when some pixels of them are at most g columns and at most g rows apart
pub conflict_exactly_lem : (g : ℕ) (s : Shape) (u : Point) (t : Shape) (v : Point) → (conflict g s u t v ≡ true) ↔ NearPixels g s u t v
conflict_exactly_lem g s u t v = (conflict_witness g s u t v, conflict_from g s u t v)

-- pixels at most g apart are so along a direction
pub near_along : (d : Direction) {g : ℕ} {s : Shape} {u : Point} {t : Shape} {v : Point} (w : NearPixels g s u t v)
    → (along d u + along d w.p ≤ along d v + along d w.q + g) × (along d v + along d w.q ≤ along d u + along d w.p + g)
near_along Horizontal w = (w.left, w.right)
near_along Vertical w = (w.below, w.above)

-- and across it
pub near_across : (d : Direction) {g : ℕ} {s : Shape} {u : Point} {t : Shape} {v : Point} (w : NearPixels g s u t v)
    → (across d u + across d w.p ≤ across d v + across d w.q + g) × (across d v + across d w.q ≤ across d u + across d w.p + g)
near_across Horizontal w = (w.below, w.above)
near_across Vertical w = (w.left, w.right)

-- pixels at most g apart along a direction and across it
pub near_over : (d : Direction) (g : ℕ) (s : Shape) (u : Point) (t : Shape) (v p q : Point) → pixel s p ≡ true → pixel t q ≡ true
    → along d u + along d p ≤ along d v + along d q + g → along d v + along d q ≤ along d u + along d p + g
    → across d u + across d p ≤ across d v + across d q + g → across d v + across d q ≤ across d u + across d p + g → NearPixels g s u t v
near_over Horizontal g s u t v p q a b e f h k =
    record { p = p; q = q; of_first = a; of_second = b; left = e; right = f; below = h; above = k }
near_over Vertical g s u t v p q a b e f h k =
    record { p = p; q = q; of_first = a; of_second = b; left = h; right = k; below = e; above = f }

-- ── grown shapes ──

-- a pixel of s at most e to the left of p and at most e below it
pub record GrownFrom (e : ℕ) (s : Shape) (p : Point) : Type 0 where
  pub from : Point
  pub is_pixel : pixel s from ≡ true
  pub right : from.x ≤ p.x
  pub near_right : p.x ≤ from.x + e
  pub up : from.y ≤ p.y
  pub near_up : p.y ≤ from.y + e

-- a pixel of the grown shape comes from one of the shape
pub grown_witness : (e : ℕ) (s : Shape) (p : Point) → pixel (grown e s) p ≡ true → GrownFrom e s p
unfolding grown_has
grown_witness e s p h =
    let here : ℕ → ℕ → Bool = λ a b. covers s (record { x = a; y = b }) p in
    let in_row = any_witness (suc e) (λ b. any_below (suc e) (λ a. here a b)) (pixel_facts (grown e s) p h).present in
    let in-column = any_witness (suc e) (λ a. here a in_row.number) in_row.passing in
    let v : Point = record { x = in-column.number; y = in_row.number } in
    let c : Covered s v p = covers_witness s v p in-column.passing in
    record {
      from = c.pixel_at;
      is_pixel = c.is_pixel;
      right = omega (arith, c.column);
      near_right = omega (arith, c.column, in-column.below);
      up = omega (arith, c.row);
      near_up = omega (arith, c.row, in_row.below);
    }

-- and each of these makes one
pub grown_from : (e : ℕ) (s : Shape) (p : Point) → GrownFrom e s p → pixel (grown e s) p ≡ true
unfolding grown_has
grown_from e s p w =
    let f : PixelOf s w.from = pixel_facts s w.from w.is_pixel in
    let a : ℕ = p.x - w.from.x in
    let b : ℕ = p.y - w.from.y in
    let here : ℕ → ℕ → Bool = λ i k. covers s (record { x = i; y = k }) p in
    let c : covers s (record { x = a; y = b }) p ≡ true
    = covers_from s (record { x = a; y = b }) p
    (record { pixel_at = w.from; is_pixel = w.is_pixel; column = omega (arith, w.right); row = omega (arith, w.up) }) in
    pixel_from (grown e s) p
    (record {
      column = omega (arith, f.column, w.near_right);
      row = omega (arith, f.row, w.near_up);
      present =
          any_from (suc e) b (λ k. any_below (suc e) (λ i. here i k)) (omega (arith, w.near_up, w.up))
          (any_from (suc e) a (λ i. here i b) (omega (arith, w.near_right, w.right)) c);
    })

-- the grown box along a direction
pub grown_extent : (d : Direction) (e : ℕ) (s : Shape) → extent d (grown e s) ≡ extent d s + e
grown_extent Horizontal e s = refl
grown_extent Vertical e s = refl

-- a pixel by its coordinates
pixel_moved : (s : Shape) (p q : Point) → p.x ≡ q.x → p.y ≡ q.y → pixel s p ≡ true → pixel s q ≡ true
pixel_moved s p q a b h = rw (← a, ← b) h

-- grown by nothing, a shape has the pixels that it has
pub grown_none : (s : Shape) → SamePixels (grown 0 s) s
grown_none s p =
    same_tests _ _
    (λ h.
    let w = grown_witness 0 s p h in
    let a : w.from.x ≡ p.x = omega (arith, w.right, w.near_right) in
    let b : w.from.y ≡ p.y = omega (arith, w.up, w.near_up) in
    pixel_moved s w.from p a b w.is_pixel)
    (λ h.
    grown_from 0 s p
    (record { from = p; is_pixel = h; right = omega arith; near_right = omega arith; up = omega arith; near_up = omega arith }))

-- ── conflict is sharing a pixel, grown ──

module _ (g : ℕ) (s : Shape) (u : Point) (t : Shape) (v : Point) where
  -- pixels at most g apart: the grown shapes meet at the larger column and the larger row
  near_shared : NearPixels g s u t v → SharedPixel (grown g s) u (grown g t) v
  near_shared w =
      let x = max (u.x + w.p.x) (v.x + w.q.x) in
      let y = max (u.y + w.p.y) (v.y + w.q.y) in
      let p : Point = record { x = x - u.x; y = y - u.y } in
      let q : Point = record { x = x - v.x; y = y - v.y } in
      record {
        p = p;
        q = q;
        of_first = grown_from g s p
            (record {
              from = w.p;
              is_pixel = w.of_first;
              right = omega arith;
              near_right = omega (arith, w.right);
              up = omega arith;
              near_up = omega (arith, w.above);
            });
        of_second = grown_from g t q
            (record {
              from = w.q;
              is_pixel = w.of_second;
              right = omega arith;
              near_right = omega (arith, w.left);
              up = omega arith;
              near_up = omega (arith, w.below);
            });
        column = omega arith;
        row = omega arith;
      }

  -- a pixel that both grown shapes have comes from pixels at most g apart
  shared_near : SharedPixel (grown g s) u (grown g t) v → NearPixels g s u t v
  shared_near w =
      let a = grown_witness g s w.p w.of_first in
      let b = grown_witness g t w.q w.of_second in
      record {
        p = a.from;
        q = b.from;
        of_first = a.is_pixel;
        of_second = b.is_pixel;
        left = omega (arith, w.column, a.right, b.near_right);
        right = omega (arith, w.column, a.near_right, b.right);
        below = omega (arith, w.row, a.up, b.near_up);
        above = omega (arith, w.row, a.near_up, b.up);
      }

  -- two pieces conflict exactly where they share a pixel, each grown by the gap
  pub conflict_grown : conflict g s u t v ≡ share (grown g s) u (grown g t) v
  conflict_grown =
      same_tests _ _
      (λ e. share_from _ _ _ _ (near_shared (conflict_witness g s u t v e)))
      (λ e. conflict_from g s u t v (shared_near (share_witness _ _ _ _ e)))

-- ── one piece widened on every side ──

module _ (g : ℕ) (s : Shape) (u : Point) (t : Shape) (v : Point) where
  -- pixels at most g apart: the one's widened by g on every side has the other
  near_widened : NearPixels g s u t v → SharedPixel (grown (g + g) s) u t (raised g v)
  near_widened w =
      let p : Point = record { x = v.x + g + w.q.x - u.x; y = v.y + g + w.q.y - u.y } in
      record {
        p = p;
        q = w.q;
        of_first = grown_from (g + g) s p
            (record {
              from = w.p;
              is_pixel = w.of_first;
              right = omega (arith, w.left);
              near_right = omega (arith, w.right);
              up = omega (arith, w.below);
              near_up = omega (arith, w.above);
            });
        of_second = w.of_second;
        column = omega (arith, w.left);
        row = omega (arith, w.below);
      }

  widened_near : SharedPixel (grown (g + g) s) u t (raised g v) → NearPixels g s u t v
  widened_near w =
      let a = grown_witness (g + g) s w.p w.of_first in
      record {
        p = a.from;
        q = w.q;
        of_first = a.is_pixel;
        of_second = w.of_second;
        left = omega (arith, w.column, a.right);
        right = omega (arith, w.column, a.near_right);
        below = omega (arith, w.row, a.up);
        above = omega (arith, w.row, a.near_up);
      }

  -- they conflict exactly where one, widened by g on every side, shares a pixel with the other: widened on every side is grown by 2g to the right and
  -- up, at a corner g further left and down, or the other g further right and up
  pub conflict_widened : conflict g s u t v ≡ share (grown (g + g) s) u t (raised g v)
  conflict_widened =
      same_tests _ _
      (λ e. share_from _ _ _ _ (near_widened (conflict_witness g s u t v e)))
      (λ e. conflict_from g s u t v (widened_near (share_witness _ _ _ _ e)))

  -- both grown by g, or one by 2g
  pub share_balanced : share (grown (g + g) s) u t (raised g v) ≡ share (grown g s) u (grown g t) v
  share_balanced = sym conflict_widened ∙ conflict_grown g s u t v

-- ── the depths and the penalty ──

-- a shift that frees them parts the grown shapes
free_apart : (g : ℕ) (d : Direction) (s : Shape) (u : Point) (t : Shape) (v : Point) (k : ℕ)
    → free_at g d s u t v k ≡ apart_at d (grown g s) u (grown g t) v k
unfolding free_at apart_at
free_apart g d s u t v k = rw (conflict_grown g s u t (shift d k v), conflict_grown g s (shift d k u) t v)

-- the depth by a gap is that of the grown shapes
pub depth_grown : (g : ℕ) (d : Direction) (s : Shape) (u : Point) (t : Shape) (v : Point) → conflict_depth g d s u t v ≡ depth d (grown g s) u (grown g t) v
unfolding conflict_depth depth
depth_grown g Horizontal s u t v = first_agree _ _ (s.columns + g + (t.columns + g)) (λ k l. free_apart g Horizontal s u t v k)
depth_grown g Vertical s u t v = first_agree _ _ (s.rows + g + (t.rows + g)) (λ k l. free_apart g Vertical s u t v k)

-- and so is the penalty
pub penalty_grown : (g : ℕ) (s : Shape) (u : Point) (t : Shape) (v : Point) → conflict_penalty g s u t v ≡ penalty (grown g s) u (grown g t) v
unfolding conflict_penalty penalty
penalty_grown g s u t v = rw (depth_grown g Horizontal s u t v, depth_grown g Vertical s u t v)
