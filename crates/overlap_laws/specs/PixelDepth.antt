-- Document 01, 'No-fit rows and penalty', with document 02's gap, over pixels and whole numbers alone: two placed pieces conflict by a gap g exactly
-- when the difference of their corners is p - q for some pixels p of the first and q of the second, but for at most g columns and at most g rows;
-- "the depth along a direction is the least |t|, t whole, such that j shifted by t" conflicts with i no longer; "the penalty is the smaller of the
-- two depths". With g = 0 these are shared pixels. No search, no bound and no edge of a sheet stands here. The first piece is s at corner u, the
-- second is t at corner v. Assumes nothing.
use Rattle.std.specs.Prelude.{true, ◌≡◌, ℕ, ◌<◌, ◌≤◌, min, ℤ, nat_abs, ◌+ℤ◌}
use Rattle.std.proofs.Math.IntN.{sub_ℕ}
use Rattle.model.specs.Piece.{Point, Shape, pixel, along, across}
use Rattle.model.specs.declared.Direction.{Direction}
use Rattle.model.specs.declared.Direction.TheVariants.{Horizontal, Vertical}

-- pixels p of s and q of t with p - q = a along the direction and p - q = o across it, but for at most g each
pub record PixelOffset (g : ℕ) (d : Direction) (s t : Shape) (a o : ℤ) : Type 0 where
  pub p : Point
  pub q : Point
  pub of_first : pixel s p ≡ true
  pub of_second : pixel t q ≡ true
  pub along_by : ℤ
  pub across_by : ℤ
  pub along_small : nat_abs along_by ≤ g
  pub across_small : nat_abs across_by ≤ g
  pub along_is : a ≡ sub_ℕ (along d p) (along d q) +ℤ along_by
  pub across_is : o ≡ sub_ℕ (across d p) (across d q) +ℤ across_by

-- t shifted by the whole number k in the direction conflicts with s: v - u, with k added along the direction, is such an offset
abbrev pub ConflictsAtShift : ℕ → Direction → Shape → Point → Shape → Point → ℤ → Type 0
ConflictsAtShift g d s u t v k = PixelOffset g d s t (sub_ℕ (along d v) (along d u) +ℤ k) (sub_ℕ (across d v) (across d u))

-- a whole number k with |k| = n such that t shifted by k does not conflict with s
pub record PartedAt (g : ℕ) (d : Direction) (s : Shape) (u : Point) (t : Shape) (v : Point) (n : ℕ) : Type 0 where
  pub amount : ℤ
  pub size : nat_abs amount ≡ n
  pub apart : ¬ ConflictsAtShift g d s u t v amount

-- n is the least |k|, k whole, such that t shifted by k does not conflict with s
pub record DepthOverPixels (g : ℕ) (d : Direction) (s : Shape) (u : Point) (t : Shape) (v : Point) (n : ℕ) : Type 0 where
  pub attained : PartedAt g d s u t v n
  pub least : (k : ℤ) → nat_abs k < n → ConflictsAtShift g d s u t v k

-- n is the smaller of the two depths
pub record PenaltyOverPixels (g : ℕ) (s : Shape) (u : Point) (t : Shape) (v : Point) (n : ℕ) : Type 0 where
  pub row_depth : ℕ
  pub column_depth : ℕ
  pub in_rows : DepthOverPixels g Horizontal s u t v row_depth
  pub in_columns : DepthOverPixels g Vertical s u t v column_depth
  pub smaller : n ≡ min row_depth column_depth
