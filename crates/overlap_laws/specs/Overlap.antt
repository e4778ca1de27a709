-- What demand 2 says of the shared-pixel test, the depths and the penalty (document 01, 'No-fit rows and penalty'), and what document 02, point 4,
-- makes of it with a gap, over pixel sets. The theorems are `demand2_penalty` and `paper_penalty` in proofs/Penalty. Assumes nothing.
use Rattle.std.specs.Prelude.{true, Bool, false, ◌⊎◌, ◌↔◌, ◌≡◌, ◌+◌, ℕ, ◌≤◌, ℤ, pos, nat_abs}
use Rattle.model.specs.Piece.{Point, Shape, pixel, shift, extent}
use Rattle.model.specs.Overlap.{share, up, down, depth, penalty, conflict, conflict_depth, conflict_penalty}
use Rattle.model.specs.declared.Direction.{Direction}
use Rattle.model.specs.declared.Direction.TheVariants.{Horizontal, Vertical}
use Rattle.overlap_laws.specs.PixelDepth.{ConflictsAtShift, DepthOverPixels, PenaltyOverPixels}
use Rattle.overlap_laws.specs.Grown.{grown}

-- pixels p of s and q of t at the same place of the sheet: u + p = v + q, so the corners' difference v - u is p - q
pub record SharedPixel (s : Shape) (u : Point) (t : Shape) (v : Point) : Type 0 where
  pub p : Point
  pub q : Point
  pub of_first : pixel s p ≡ true
  pub of_second : pixel t q ≡ true
  pub column : u.x + p.x ≡ v.x + q.x
  pub row : u.y + p.y ≡ v.y + q.y

-- pixels p of s and q of t at most g columns and at most g rows apart on the sheet
pub record NearPixels (g : ℕ) (s : Shape) (u : Point) (t : Shape) (v : Point) : Type 0 where
  pub p : Point
  pub q : Point
  pub of_first : pixel s p ≡ true
  pub of_second : pixel t q ≡ true
  pub left : u.x + p.x ≤ v.x + q.x + g
  pub right : v.x + q.x ≤ u.x + p.x + g
  pub below : u.y + p.y ≤ v.y + q.y + g
  pub above : v.y + q.y ≤ u.y + p.y + g

-- t shifted by the whole number z in the direction shares a pixel with s, or conflicts with it: shifting t down by n is shifting s up by n
abbrev pub shares_shifted : Direction → Shape → Point → Shape → Point → ℤ → Bool
shares_shifted d s u t v z = share s (shift d (down z) u) t (shift d (up z) v)

abbrev pub conflicts_shifted : ℕ → Direction → Shape → Point → Shape → Point → ℤ → Bool
conflicts_shifted g d s u t v z = conflict g s (shift d (down z) u) t (shift d (up z) v)

-- a whole shift with |z| = m that parts two pieces, which meet at a shift by the test
pub record PartingShift (meet : ℤ → Bool) (m : ℕ) : Type 0 where
  pub amount : ℤ
  pub size : nat_abs amount ≡ m
  pub apart : meet amount ≡ false

-- m is the least |z|, z whole, such that the two do not meet at the shift z
pub record LeastShift (meet : ℤ → Bool) (m : ℕ) : Type 0 where
  pub parting : PartingShift meet m
  pub least : (z : ℤ) → meet z ≡ false → m ≤ nat_abs z

-- a corner moved up and to the right
abbrev pub raised : ℕ → Point → Point
raised g v = record { x = v.x + g; y = v.y + g }

-- what demand 2 and document 02, point 4, say of the test for a conflict and the penalty of s at corner u and t at corner v by a gap g, over their
-- pixel sets
pub record PenaltyLaws (g : ℕ) (s : Shape) (u : Point) (t : Shape) (v : Point) : Type 0 where
  -- the test says yes exactly when some pixel of s is at most g columns and at most g rows from some pixel of t
  pub conflict_exactly : (conflict g s u t v ≡ true) ↔ NearPixels g s u t v
  -- that is where one of the two, widened by g on every side, shares a pixel with the other: grown by 2g to the right and up, with the other's corner
  -- moved by g
  pub widened : conflict g s u t v ≡ share (grown (g + g) s) u t (raised g v)
  -- the penalty is 0 exactly when the test says no
  pub zero_exactly : (conflict_penalty g s u t v ≡ 0) ↔ (conflict g s u t v ≡ false)
  -- the penalty is 0 exactly when there are no such pixels
  pub zero_no_pixel : (conflict_penalty g s u t v ≡ 0) ↔ (¬ NearPixels g s u t v)
  -- each depth is the least |z|, z whole, such that t shifted by z in its direction does not conflict with s
  pub depths : (d : Direction) → LeastShift (conflicts_shifted g d s u t v) (conflict_depth g d s u t v)
  -- the test over pixels: not shifted, they conflict exactly when the corners' difference is p - q for some pixels, but for at most g
  pub conflict_at : (d : Direction) → (conflict g s u t v ≡ true) ↔ ConflictsAtShift g d s u t v (pos 0)
  -- shifted by k, exactly when that difference, k added along the direction, is so
  pub conflict_shifted : (d : Direction) (k : ℤ) → (conflicts_shifted g d s u t v k ≡ true) ↔ ConflictsAtShift g d s u t v k
  -- each depth over pixels: the least |k|, k whole, such that t shifted by k does not conflict with s, and no other number
  pub pixel_depths : (d : Direction) (n : ℕ) → DepthOverPixels g d s u t v n ↔ (n ≡ conflict_depth g d s u t v)
  -- the penalty over pixels: the smaller of these two, and no other number
  pub pixel_penalty : (n : ℕ) → PenaltyOverPixels g s u t v n ↔ (n ≡ conflict_penalty g s u t v)
  -- the penalty is the smaller of the two depths
  pub at_most : (d : Direction) → conflict_penalty g s u t v ≤ conflict_depth g d s u t v
  pub attained : (conflict_penalty g s u t v ≡ conflict_depth g Horizontal s u t v) ⊎ (conflict_penalty g s u t v ≡ conflict_depth g Vertical s u t v)
  -- the penalty does not depend on which of the two is called first
  pub symmetric : conflict_penalty g s u t v ≡ conflict_penalty g t v s u
  -- each depth is at most 263 for boxes with sides at most 255 and a gap of at most 8
  pub bounded : (d : Direction) → g ≤ 8 → extent d s ≤ 255 → extent d t ≤ 255 → conflict_depth g d s u t v ≤ 263

-- with no gap, test, depths and penalty are the paper's (Umetani and Murakami, equations 4 and 5): to conflict is to share a pixel
pub record PaperLaws (s : Shape) (u : Point) (t : Shape) (v : Point) : Type 0 where
  pub share_is : conflict 0 s u t v ≡ share s u t v
  pub depth_is : (d : Direction) → conflict_depth 0 d s u t v ≡ depth d s u t v
  pub penalty_is : conflict_penalty 0 s u t v ≡ penalty s u t v
  -- the paper's test says yes exactly when u + p = v + q for some pixels p of s and q of t
  pub shared_exactly : (share s u t v ≡ true) ↔ SharedPixel s u t v
