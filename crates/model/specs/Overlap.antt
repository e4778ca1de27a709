-- Document 01, 'No-fit rows and penalty': when two placed pieces share a pixel and how far one has to be shifted until they do not: Umetani
-- and Murakami (2021), equations 4 and 5, over sets of pixels. Document 02, point 4: when they conflict, which with a gap of 0 is to share a
-- pixel, the offsets at which they do, and how far one has to be shifted until they do not. Assumes nothing.
use Rattle.std.specs.Prelude.{Bool, not, ◌&&◌, ◌||◌, List, map, ℕ, suc, ◌+◌, ◌-◌, min, leb, ℤ, pos, negsuc}
use Rattle.std.proofs.Math.IntN.{sub_ℕ}
use Rattle.model.specs.Bounded.{any_below, first_from}
use Rattle.model.specs.Piece.{Point, Shape, side_bound, gap_bound, point, shift, extent, covers}
use Rattle.model.specs.Strip.{Run, runs}
use Rattle.model.specs.declared.Direction.{Direction}
use Rattle.model.specs.declared.Direction.TheVariants.{Horizontal, Vertical}

-- a pixel of s at corner u is a pixel of t at corner v: u + p = v + q for some pixels p of s and q of t
unfoldable pub share : Shape → Point → Shape → Point → Bool
share s u t v =
    any_below s.rows (λ y. any_below s.columns (λ x. s.has x y && covers t v (record { x = u.x + x; y = u.y + y })))

-- the second of two that meet at corners u and v, by the test, shifted by k in the direction, or the first, meets the other no longer:
-- shifting the first by k is shifting the second by -k
abbrev pub parted_at : (Point → Point → Bool) → Direction → Point → Point → ℕ → Bool
parted_at meet d u v k = not (meet u (shift d k v)) || not (meet (shift d k u) v)

-- t shifted by k in the direction, or s shifted by k, shares no pixel with the other
unfoldable pub apart_at : Direction → Shape → Point → Shape → Point → ℕ → Bool
apart_at d s u t v k = parted_at (λ p q. share s p t q) d u v k

-- a shift by this much parts them in at least one of the two signs
abbrev pub reach : Direction → Shape → Shape → ℕ
reach d s t = extent d s + extent d t

-- the paper's depth along the direction: the least |t| at which they share no pixel. The sheet's edge plays no part
unfoldable pub depth : Direction → Shape → Point → Shape → Point → ℕ
depth d s u t v = first_from (apart_at d s u t v) 0 (reach d s t)

-- the paper's penalty: the smaller of the two depths
unfoldable pub penalty : Shape → Point → Shape → Point → ℕ
penalty s u t v = min (depth Horizontal s u t v) (depth Vertical s u t v)

-- ── conflict: with a gap ──

-- two coordinates are at most g apart
abbrev pub within : ℕ → ℕ → ℕ → Bool
within g a b = leb a (b + g) && leb b (a + g)

-- some pixel of t at corner v is at most g columns and at most g rows from the point p
unfoldable pub near_to : ℕ → Shape → Point → Point → Bool
near_to g t v p =
    any_below t.rows (λ y. any_below t.columns (λ x. t.has x y && within g (v.x + x) p.x && within g (v.y + y) p.y))

-- two pieces conflict: some pixel of s at corner u is at most g columns and at most g rows from some pixel of t at corner v
unfoldable pub conflict : ℕ → Shape → Point → Shape → Point → Bool
conflict g s u t v =
    any_below s.rows (λ y. any_below s.columns (λ x. s.has x y && near_to g t v (record { x = u.x + x; y = u.y + y })))

-- t shifted by k in the direction, or s shifted by k, does not conflict with the other
unfoldable pub free_at : ℕ → Direction → Shape → Point → Shape → Point → ℕ → Bool
free_at g d s u t v k = parted_at (λ p q. conflict g s p t q) d u v k

-- the depth along the direction: the least |t| at which they do not conflict. The sheet's edge plays no part
unfoldable pub conflict_depth : ℕ → Direction → Shape → Point → Shape → Point → ℕ
conflict_depth g d s u t v = first_from (free_at g d s u t v) 0 (extent d s + g + (extent d t + g))

-- the penalty: the smaller of the two depths
unfoldable pub conflict_penalty : ℕ → Shape → Point → Shape → Point → ℕ
conflict_penalty g s u t v = min (conflict_depth g Horizontal s u t v) (conflict_depth g Vertical s u t v)

-- ── no-fit rows and columns ──

-- the largest offset between two pieces that conflict, 262; every offset lies between -offset_bound and offset_bound
abbrev pub offset_bound : ℕ
offset_bound = side_bound - 1 + gap_bound

-- how far an offset goes up, and how far down
abbrev pub up : ℤ → ℕ
up (pos n) = n
up (negsuc n) = 0

abbrev pub down : ℤ → ℕ
down (pos n) = 0
down (negsuc n) = suc n

-- t's corner minus s's corner is k - offset_bound along the direction and the offset across it, and they conflict
unfoldable pub no_fit_at : ℕ → Direction → Shape → Shape → ℤ → ℕ → Bool
no_fit_at g d s t across-offset k =
    conflict g s (point d offset_bound (down across-offset)) t (point d k (up across-offset))

-- a run of signed offsets
pub record OffsetRun : Type 0 where
  pub first : ℤ
  pub count : ℕ

-- a run of biased offsets as signed ones
abbrev pub unbiased : Run → OffsetRun
unbiased r = record { first = sub_ℕ r.first offset_bound; count = r.count }

-- the no-fit row (horizontal) at a row offset, or the no-fit column (vertical) at a column offset: the offsets along the
-- direction at which the two conflict, as maximal runs, ascending
unfoldable pub no_fit : ℕ → Direction → Shape → Shape → ℤ → List OffsetRun
no_fit g d s t across-offset = map unbiased (runs (no_fit_at g d s t across-offset) (offset_bound + offset_bound + 1))
