-- Between which numbers the offsets of a no-fit row or column lie, as they stand in the caller's buffer (document 02, point 5). The theorem is
-- `offsets_given` in proofs/NoFits. Assumes nothing.
use Rattle.std.specs.Prelude.{List, [], ℕ, ◌<◌, ◌≤◌, ℤ, pos, ◌+ℤ◌, get_or, ◌<ℤ◌}
use Rattle.std.proofs.Math.IntN.{pred_ℤ}
use Rattle.model.specs.Piece.{gap_bound}
use Rattle.overlap_laws.specs.NoFit.{offset_reach, Between}

-- the first offset of a run that stands in a run buffer, and the count of its offsets
abbrev pub first_offset : List ℤ → ℤ
first_offset e = get_or e 0 (pos 0)

abbrev pub offsets_in : List ℤ → ℤ
offsets_in e = get_or e 1 (pos 0)

-- its last offset
abbrev pub last_offset : List ℤ → ℤ
last_offset e = pred_ℤ (first_offset e +ℤ offsets_in e)

-- a run that is not empty, from its first offset to its last between -n and n
pub record RunWithin (n : ℕ) (e : List ℤ) : Type 0 where
  pub some : pos 0 <ℤ offsets_in e
  pub first : Between n (first_offset e)
  pub last : Between n (last_offset e)

-- the first n runs of the buffer lie between -(254 + g) and 254 + g, and g is at most 8, so that a caller may keep their offsets as 16-bit signed
-- numbers
pub record OffsetsWithin (g n : ℕ) (entries : List (List ℤ)) : Type 0 where
  pub small_gap : g ≤ gap_bound
  pub runs : (k : ℕ) → k < n → RunWithin (offset_reach g) (get_or entries k [])
