-- Sums to which a line of penalties is added. Assumes nothing.
use Rattle.std.specs.Prelude.{List, ◌≡◌, ℕ, ◌+◌, ◌*◌, ◌<◌, ◌≤◌, length, get_or}

-- each sum from place `low` on has weight × penalty more, as far as the line goes; the others are as they were
pub record LineAdded (weight low : ℕ) (line before after : List ℕ) : Type 0 where
  pub same : length after ≡ length before
  pub part : (k : ℕ) → k < length line → get_or after (low + k) 0 ≡ get_or before (low + k) 0 + weight * get_or line k 0
  pub below : (a : ℕ) → a < low → get_or after a 0 ≡ get_or before a 0
  pub above : (a : ℕ) → low + length line ≤ a → get_or after a 0 ≡ get_or before a 0
