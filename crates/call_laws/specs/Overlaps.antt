-- What a depth, a penalty and a sum that are given say of the layout (document 01, 'No-fit rows and penalty', with document 02's gap). The theorems are in
-- proofs/Overlaps. Assumes nothing.
use Rattle.std.specs.Prelude.{List, ◌↔◌, ◌≡◌, ℕ, ◌≤◌}
use Rattle.model.specs.Layout.{Job, Layout, shape_in, corner_in, weighted_sum}
use Rattle.model.specs.Overlap.{depth, penalty, conflict_penalty}
use Rattle.model.specs.declared.Direction.{Direction}
use Rattle.overlap_laws.specs.PixelDepth.{DepthOverPixels, PenaltyOverPixels}
use Rattle.overlap_laws.specs.Overlap.{PenaltyLaws, NearPixels, SharedPixel, LeastShift, conflicts_shifted}
use Rattle.descent_laws.specs.Claims.{NoConflict}
use Rattle.descent_laws.specs.Sums.{sum_bound}

-- demand 2's laws of the test for a conflict and the penalty, of two pieces where the layout puts them, by the job's gap
abbrev pub PairLaws : Job → Layout → ℕ → ℕ → Type 0
PairLaws j v i k = PenaltyLaws j.size.gap (shape_in j v i) (corner_in v i) (shape_in j v k) (corner_in v k)

-- the two pieces conflict, over pixels
abbrev pub PairNear : Job → Layout → ℕ → ℕ → Type 0
PairNear j v i k = NearPixels j.size.gap (shape_in j v i) (corner_in v i) (shape_in j v k) (corner_in v k)

-- the two pieces share a pixel
abbrev pub PairShared : Job → Layout → ℕ → ℕ → Type 0
PairShared j v i k = SharedPixel (shape_in j v i) (corner_in v i) (shape_in j v k) (corner_in v k)

-- what a depth that is given means: it is the least |t|, t whole, such that the second piece shifted by t does not conflict with the first
pub record DepthClaims (d : Direction) (j : Job) (v : Layout) (i k n : ℕ) : Type 0 where
  -- by the test for a conflict
  pub shifts : LeastShift (conflicts_shifted j.size.gap d (shape_in j v i) (corner_in v i) (shape_in j v k) (corner_in v k)) n
  -- over pixels
  pub over_pixels : DepthOverPixels j.size.gap d (shape_in j v i) (corner_in v i) (shape_in j v k) (corner_in v k) n
  -- with a gap of 0 it is the paper's
  pub paper : j.size.gap ≡ 0 → n ≡ depth d (shape_in j v i) (corner_in v i) (shape_in j v k) (corner_in v k)
  -- it is at most 263
  pub small : n ≤ 263

-- what a penalty that is given means
pub record PenaltyClaims (j : Job) (v : Layout) (i k n : ℕ) : Type 0 where
  -- it is the penalty of the two pieces' pixel sets, of which demand 2's laws hold
  pub is : n ≡ conflict_penalty j.size.gap (shape_in j v i) (corner_in v i) (shape_in j v k) (corner_in v k)
  pub laws : PairLaws j v i k
  -- over pixels: it is the smaller of the least |t|, t whole, in rows and the least in columns such that the second piece shifted by t
  -- does not conflict with the first
  pub over_pixels : PenaltyOverPixels j.size.gap (shape_in j v i) (corner_in v i) (shape_in j v k) (corner_in v k) n
  -- it is 0 exactly when they do not conflict
  pub zero_exactly : (n ≡ 0) ↔ (¬ PairNear j v i k)
  -- with a gap of 0 it is the paper's
  pub paper : j.size.gap ≡ 0 → n ≡ penalty (shape_in j v i) (corner_in v i) (shape_in j v k) (corner_in v k)
  -- it is at most 199
  pub small : n ≤ 199

-- what a sum that is given means: it is 0 exactly when no two pieces conflict, and it is at most 2,016 × 65,535 × 255
pub record SumClaims (j : Job) (ws : List ℕ) (v : Layout) (n : ℕ) : Type 0 where
  pub is : n ≡ weighted_sum j ws v
  pub zero_exactly : (n ≡ 0) ↔ NoConflict j v
  pub small : n ≤ sum_bound
