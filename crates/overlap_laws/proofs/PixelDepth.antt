-- Document 01, 'No-fit rows and penalty', with document 02's gap: depth and penalty over pixels and whole shifts. `conflict` of the two, the one
-- shifted up and the other down, says yes exactly when the corners' difference with the whole shift added is a difference of two pixels, but for at
-- most g; so at every shift smaller than the depth there are two such pixels, and at the depth there are none for one of the signs. That the
-- depth by a gap is such a least shift is carried over from the grown shapes. Assumes nothing.
use Rattle.list_laws.proofs.Kit.{◌∙◌, ◌≡◌, ap₂, refl, sym, false, true, ◌↔◌, ◌+◌, ◌≤◌, min, ℕ, arith, by_contra, ◌+ℤ◌, nat_abs, pos, sub_ℕ, ℤ}
use Rattle.model.specs.Piece.{Point, Shape, along, across, shift}
use Rattle.model.specs.Overlap.{conflict, conflict_depth, conflict_penalty, up, down}
use Rattle.model.specs.declared.Direction.{Direction}
use Rattle.model.specs.declared.Direction.TheVariants.{Horizontal, Vertical}
use Rattle.list_laws.proofs.Tests.{clash, fails, passes}
use Rattle.overlap_laws.specs.PixelDepth.{PixelOffset, ConflictsAtShift, DepthOverPixels, PenaltyOverPixels}
use Rattle.overlap_laws.proofs.Share.{along_shift, across_shift, shift_zero}
use Rattle.overlap_laws.proofs.Whole.{whole_eq, sub_whole, add_signed}
use Rattle.overlap_laws.specs.Overlap.{PartingShift, LeastShift, shares_shifted, conflicts_shifted}
use Rattle.overlap_laws.specs.Grown.{grown}
use Rattle.overlap_laws.proofs.Depth.{depth_exactly, least_shift_unique}
use Rattle.overlap_laws.proofs.Grown.{conflict_grown, depth_grown}
use Rattle.overlap_laws.proofs.NoFit.{conflict_offset}

module _ (g : ℕ) (d : Direction) (s : Shape) (u : Point) (t : Shape) (v : Point) where
  -- along the direction the corners' difference grows by the whole shift
  moved_along : (k : ℤ) → sub_ℕ (along d (shift d (up k) v)) (along d (shift d (down k) u)) ≡ sub_ℕ (along d v) (along d u) +ℤ k
  moved_along k =
      rw (along_shift d (up k) v, along_shift d (down k) u)
      (whole_eq (sub_ℕ (along d v + up k) (along d u + down k)) (sub_ℕ (along d v) (along d u) +ℤ k)
      (let moved = sub_whole (along d v + up k) (along d u + down k) in
      let between = sub_whole (along d v) (along d u) in
      omega (arith, add_signed (sub_ℕ (along d v) (along d u)) k)))

  -- across it the difference is as it was
  moved_across : (k : ℤ) → sub_ℕ (across d (shift d (up k) v)) (across d (shift d (down k) u)) ≡ sub_ℕ (across d v) (across d u)
  moved_across k = ap₂ sub_ℕ (across_shift d (up k) v) (across_shift d (down k) u)

  -- shifted by k they conflict exactly when the difference with k added is p - q for some pixels, but for at most g
  pub conflicts_at_shift : (k : ℤ) → (conflicts_shifted g d s u t v k ≡ true) ↔ ConflictsAtShift g d s u t v k
  conflicts_at_shift k = rw (moved_along k, moved_across k) at (conflict_offset g d s (shift d (down k) u) t (shift d (up k) v))

  -- not shifted they conflict exactly when the corners' difference is so
  pub conflicts_unshifted : (conflict g s u t v ≡ true) ↔ ConflictsAtShift g d s u t v (pos 0)
  conflicts_unshifted = rw (shift_zero d u, shift_zero d v) at (conflicts_at_shift (pos 0))

  -- where no pixels have that difference, the test says no
  apart_shift : (k : ℤ) → (¬ ConflictsAtShift g d s u t v k) → conflicts_shifted g d s u t v k ≡ false
  apart_shift k n = fails (conflicts_shifted g d s u t v k) (λ e. n ((conflicts_at_shift k).0 e))

  -- the least whole shift that parts them, over pixels
  least_over_pixels : (n : ℕ) → LeastShift (conflicts_shifted g d s u t v) n → DepthOverPixels g d s u t v n
  least_over_pixels n l =
      record {
        attained =
            record {
              amount = l.parting.amount;
              size = l.parting.size;
              apart = λ w. clash ((conflicts_at_shift l.parting.amount).1 w) l.parting.apart;
            };
        least =
            λ k h.
            (conflicts_at_shift k).0
            (passes (conflicts_shifted g d s u t v k) (λ e. let m : n ≤ nat_abs k = l.least k e in omega arith));
      }

  -- and back
  over_pixels_least : (n : ℕ) → DepthOverPixels g d s u t v n → LeastShift (conflicts_shifted g d s u t v) n
  over_pixels_least n o =
      record {
        parting =
            record {
              amount = o.attained.amount;
              size = o.attained.size;
              apart = apart_shift o.attained.amount o.attained.apart;
            };
        least = λ k e. by_contra n (nat_abs k) (λ h. clash ((conflicts_at_shift k).1 (o.least k h)) e);
      }

  -- the depth is the least |z|, z whole, such that t shifted by z does not conflict with s
  pub conflict_depth_exactly : LeastShift (conflicts_shifted g d s u t v) (conflict_depth g d s u t v)
  conflict_depth_exactly =
      let r : LeastShift (shares_shifted d (grown g s) u (grown g t) v) _ = depth_exactly d (grown g s) u (grown g t) v in
      rw (depth_grown g d s u t v)
      (record {
        parting =
            record {
              amount = r.parting.amount;
              size = r.parting.size;
              apart = conflict_grown g s _ t _ ∙ r.parting.apart;
            };
        least = λ z e. r.least z (sym (conflict_grown g s _ t _) ∙ e);
      })

  -- so it is over pixels
  pub depth_over_pixels : DepthOverPixels g d s u t v (conflict_depth g d s u t v)
  depth_over_pixels = least_over_pixels (conflict_depth g d s u t v) conflict_depth_exactly

  -- there is one such number
  pub over_pixels_depth : (n : ℕ) → DepthOverPixels g d s u t v n → n ≡ conflict_depth g d s u t v
  over_pixels_depth n o = least_shift_unique (conflicts_shifted g d s u t v) n _ (over_pixels_least n o) conflict_depth_exactly

module _ (g : ℕ) (s : Shape) (u : Point) (t : Shape) (v : Point) where
  -- the penalty is the smaller of the two depths
  pub penalty_over_pixels : PenaltyOverPixels g s u t v (conflict_penalty g s u t v)
  unfolding conflict_penalty
  penalty_over_pixels =
      record {
        row_depth = conflict_depth g Horizontal s u t v;
        column_depth = conflict_depth g Vertical s u t v;
        in_rows = depth_over_pixels g Horizontal s u t v;
        in_columns = depth_over_pixels g Vertical s u t v;
        smaller = refl;
      }

  -- there is one such number
  pub over_pixels_penalty : (n : ℕ) → PenaltyOverPixels g s u t v n → n ≡ conflict_penalty g s u t v
  unfolding conflict_penalty
  over_pixels_penalty n o =
      let a : o.row_depth ≡ conflict_depth g Horizontal s u t v = over_pixels_depth g Horizontal s u t v o.row_depth o.in_rows in
      let b : o.column_depth ≡ conflict_depth g Vertical s u t v = over_pixels_depth g Vertical s u t v o.column_depth o.in_columns in
      o.smaller ∙ ap₂ min a b
