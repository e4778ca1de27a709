-- Document 01, 'No-fit rows and penalty' and demand 2: the penalty is the smaller of the two depths. It is 0 exactly when no pixel
-- is shared, since each depth is, and it does not depend on which piece is called first, since neither depth does. With document 02's gap the same
-- holds of conflicts, since these are shared pixels of grown shapes.
-- Assumes nothing.
use Rattle.list_laws.proofs.Kit.{◌∙◌, ◌≡◌, sym, false, true, iff_trans, ◌↔◌, ◌⊎◌, ⊎_elim, ◌+◌, ◌≤◌, ℕ, min-le_left, min-le_right, arith}
use Rattle.model.specs.Piece.{Point, Shape, extent}
use Rattle.model.specs.Overlap.{share, depth, penalty, conflict, conflict_depth, conflict_penalty}
use Rattle.model.specs.declared.Direction.{Direction}
use Rattle.model.specs.declared.Direction.TheVariants.{Horizontal, Vertical}
use Rattle.list_laws.proofs.Tests.{clash, fails}
use Rattle.list_laws.proofs.Extremes.{min_one}
use Rattle.overlap_laws.specs.Overlap.{PenaltyLaws, PaperLaws, NearPixels}
use Rattle.overlap_laws.specs.Grown.{grown}
use Rattle.overlap_laws.proofs.Share.{SameDifference, SamePixels, share_exactly, share_symmetric, share_pixels}
use Rattle.overlap_laws.proofs.Grown.{conflict_exactly_lem, conflict_from, conflict_witness, conflict_grown, conflict_widened, depth_grown, penalty_grown}
use Rattle.overlap_laws.proofs.Grown.{grown_none, grown_extent}
use Rattle.overlap_laws.proofs.Depth.{depth_zero, zero_depth, depth_symmetric, depth_difference, depth_pixels, depth_half}
use Rattle.overlap_laws.proofs.PixelDepth.{conflicts_at_shift, conflicts_unshifted, conflict_depth_exactly, depth_over_pixels, over_pixels_depth}
use Rattle.overlap_laws.proofs.PixelDepth.{penalty_over_pixels, over_pixels_penalty}

module _ (s : Shape) (u : Point) (t : Shape) (v : Point) where
  -- the penalty is at most each depth
  pub penalty_le : (d : Direction) → penalty s u t v ≤ depth d s u t v
  unfolding penalty
  penalty_le Horizontal = min-le_left _ _
  penalty_le Vertical = min-le_right _ _

  -- the penalty is one of the two depths
  pub penalty_attained : (penalty s u t v ≡ depth Horizontal s u t v) ⊎ (penalty s u t v ≡ depth Vertical s u t v)
  unfolding penalty
  penalty_attained = min_one _ _

  -- pieces that share no pixel have penalty 0
  pub penalty_zero : share s u t v ≡ false → penalty s u t v ≡ 0
  penalty_zero e = omega (arith, penalty_le Horizontal, depth_zero Horizontal s u t v e)

  -- pieces of penalty 0 share no pixel
  pub zero_penalty : penalty s u t v ≡ 0 → share s u t v ≡ false
  zero_penalty e =
      ⊎_elim (λ h. zero_depth Horizontal s u t v (sym h ∙ e)) (λ h. zero_depth Vertical s u t v (sym h ∙ e)) penalty_attained

  -- the penalty is at most half the sum of the sides along either direction
  pub penalty_half : (d : Direction) (k : ℕ) → extent d s + extent d t ≤ k + k + 1 → penalty s u t v ≤ k
  penalty_half d k h = omega (arith, penalty_le d, depth_half d s u t v k h)

-- the penalty does not depend on which of the two is called first
pub penalty_symmetric : (s : Shape) (u : Point) (t : Shape) (v : Point) → penalty s u t v ≡ penalty t v s u
unfolding penalty
penalty_symmetric s u t v = rw (depth_symmetric Horizontal s u t v, depth_symmetric Vertical s u t v)

-- the penalty depends on the corners' difference only
pub penalty_difference : (s : Shape) (u : Point) (t : Shape) (v u' v' : Point) → SameDifference u v u' v' → penalty s u t v ≡ penalty s u' t v'
unfolding penalty
penalty_difference s u t v u' v' e = rw (depth_difference Horizontal s u t v u' v' e, depth_difference Vertical s u t v u' v' e)

-- the penalty depends on the pixel sets only
pub penalty_pixels : (s : Shape) (u : Point) (t : Shape) (v : Point) (s' t' : Shape) → SamePixels s s' → SamePixels t t'
    → penalty s u t v ≡ penalty s' u t' v
unfolding penalty
penalty_pixels s u t v s' t' e f = rw (depth_pixels Horizontal s u t v s' t' e f, depth_pixels Vertical s u t v s' t' e f)

-- ── with a gap ──

module _ (g : ℕ) (s : Shape) (u : Point) (t : Shape) (v : Point) where
  -- pieces conflict exactly when their penalty is not 0
  pub conflict_zero : conflict g s u t v ≡ false → conflict_penalty g s u t v ≡ 0
  conflict_zero e = penalty_grown g s u t v ∙ penalty_zero _ u _ v (sym (conflict_grown g s u t v) ∙ e)

  pub zero_conflict : conflict_penalty g s u t v ≡ 0 → conflict g s u t v ≡ false
  zero_conflict e = conflict_grown g s u t v ∙ zero_penalty _ u _ v (sym (penalty_grown g s u t v) ∙ e)

  -- the penalty is at most each depth, and one of them
  pub conflict_penalty_le : (d : Direction) → conflict_penalty g s u t v ≤ conflict_depth g d s u t v
  conflict_penalty_le d = rw (penalty_grown g s u t v, depth_grown g d s u t v) (penalty_le (grown g s) u (grown g t) v d)

  pub conflict_attained : (conflict_penalty g s u t v ≡ conflict_depth g Horizontal s u t v) ⊎ (conflict_penalty g s u t v ≡ conflict_depth g Vertical s u t v)
  unfolding conflict_penalty
  conflict_attained = min_one _ _

  -- a depth is at most 263 for boxes with sides at most 255 and a gap of at most 8
  pub conflict_bound : (d : Direction) → g ≤ 8 → extent d s ≤ 255 → extent d t ≤ 255 → conflict_depth g d s u t v ≤ 263
  conflict_bound d h a b =
      rw (depth_grown g d s u t v)
      (depth_half d (grown g s) u (grown g t) v 263 (omega (arith, grown_extent d g s, grown_extent d g t)))

-- to conflict does not depend on which of the two is called first, nor do the depths and the penalty
pub conflict_symmetric : (g : ℕ) (s : Shape) (u : Point) (t : Shape) (v : Point) → conflict g s u t v ≡ conflict g t v s u
conflict_symmetric g s u t v = conflict_grown g s u t v ∙ share_symmetric _ u _ v ∙ sym (conflict_grown g t v s u)

pub conflict_depth_symmetric : (g : ℕ) (d : Direction) (s : Shape) (u : Point) (t : Shape) (v : Point) → conflict_depth g d s u t v ≡ conflict_depth g d t v s u
conflict_depth_symmetric g d s u t v = depth_grown g d s u t v ∙ depth_symmetric d _ u _ v ∙ sym (depth_grown g d t v s u)

pub conflict_penalty_symmetric : (g : ℕ) (s : Shape) (u : Point) (t : Shape) (v : Point) → conflict_penalty g s u t v ≡ conflict_penalty g t v s u
conflict_penalty_symmetric g s u t v = penalty_grown g s u t v ∙ penalty_symmetric _ u _ v ∙ sym (penalty_grown g t v s u)

-- ── demand 2 ──

-- no two pixels are so near exactly when the test says no
no_pixel : (g : ℕ) (s : Shape) (u : Point) (t : Shape) (v : Point) → (conflict g s u t v ≡ false) ↔ (¬ NearPixels g s u t v)
no_pixel g s u t v = (λ e w. clash (conflict_from g s u t v w) e, λ n. fails (conflict g s u t v) (λ e. n (conflict_witness g s u t v e)))

-- demand 2, test and penalty, by a gap
pub demand2_penalty : (g : ℕ) (s : Shape) (u : Point) (t : Shape) (v : Point) → PenaltyLaws g s u t v
demand2_penalty g s u t v =
    let none-near : (conflict_penalty g s u t v ≡ 0) ↔ (conflict g s u t v ≡ false) = (zero_conflict g s u t v, conflict_zero g s u t v) in
    record {
      conflict_exactly = conflict_exactly_lem g s u t v;
      widened = conflict_widened g s u t v;
      zero_exactly = none-near;
      zero_no_pixel = iff_trans none-near (no_pixel g s u t v);
      depths = λ d. conflict_depth_exactly g d s u t v;
      conflict_at = λ d. conflicts_unshifted g d s u t v;
      conflict_shifted = λ d. conflicts_at_shift g d s u t v;
      pixel_depths = λ d n. (over_pixels_depth g d s u t v n, λ e. rw e (depth_over_pixels g d s u t v));
      pixel_penalty = λ n. (over_pixels_penalty g s u t v n, λ e. rw e (penalty_over_pixels g s u t v));
      at_most = conflict_penalty_le g s u t v;
      attained = conflict_attained g s u t v;
      symmetric = conflict_penalty_symmetric g s u t v;
      bounded = conflict_bound g s u t v;
    }

-- with no gap they are the paper's
pub paper_penalty : (s : Shape) (u : Point) (t : Shape) (v : Point) → PaperLaws s u t v
paper_penalty s u t v =
    record {
      share_is = conflict_grown 0 s u t v ∙ share_pixels _ u _ v s t (grown_none s) (grown_none t);
      depth_is = λ d. depth_grown 0 d s u t v ∙ depth_pixels d _ u _ v s t (grown_none s) (grown_none t);
      penalty_is = penalty_grown 0 s u t v ∙ penalty_pixels _ u _ v s t (grown_none s) (grown_none t);
      shared_exactly = share_exactly s u t v;
    }
