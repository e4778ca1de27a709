-- Levels of widened marks: each level has `size` words, and level k has 2 ^ k marks, from its own place upwards, for each mark of level 0.
-- Assumes nothing.
use Rattle.std.specs.Prelude.{true, ◌&&◌, ◌||◌, List, ◌≡◌, ℕ, ◌+◌, ◌-◌, ◌*◌, ◌^◌, ◌<◌, ◌≤◌, leb, length, get_or, take, drop}
use Rattle.model.specs.Bounded.{any_below}
use Rattle.bit_laws.specs.Bit.{bit_in, length_limit}
use Rattle.search_words.specs.Words.{Spare, Widened}

-- the most levels: those of strips of up to 511 pixels
abbrev pub level_bound : ℕ
level_bound = 9

-- level k of a slice
abbrev pub level_of : List ℕ → ℕ → ℕ → List ℕ
level_of ws size k = take size (drop (k * size) ws)

-- the slice has room for the levels
pub record LevelRoom (ws : List ℕ) (size levels : ℕ) : Type 0 where
  pub some : 1 ≤ levels
  pub few : levels ≤ level_bound
  pub room : levels * size ≤ length ws
  pub short : length ws < length_limit

-- words stand at a later place too
pub record Copied (xs : List ℕ) (from to count : ℕ) (ys : List ℕ) : Type 0 where
  pub same : length ys ≡ length xs
  pub done : (k : ℕ) → k < count → get_or ys (to + k) 0 ≡ get_or xs (from + k) 0
  pub before : (m : ℕ) → m < to → get_or ys m 0 ≡ get_or xs m 0
  pub after : (m : ℕ) → to + count ≤ m → get_or ys m 0 ≡ get_or xs m 0

-- the level after the one from `from` on is that one, and the same moved up by s
pub record NextLevel (xs : List ℕ) (from size s : ℕ) (ys : List ℕ) : Type 0 where
  pub same : length ys ≡ length xs
  pub each : (p : ℕ) → p < size * 64 → bit_in ys ((from + size) * 64 + p) ≡ (bit_in xs (from * 64 + p) || (leb s p && bit_in xs (from * 64 + (p - s))))
  pub before : (m : ℕ) → m < from + size → get_or ys m 0 ≡ get_or xs m 0

-- the first `levels` levels of ys widen the first of xs
pub record Grown (xs : List ℕ) (size levels : ℕ) (ys : List ℕ) : Type 0 where
  pub same : length ys ≡ length xs
  pub each : (k p : ℕ) → k < levels → p < size * 64 → bit_in ys (k * size * 64 + p) ≡ any_below (2 ^ k) (λ t. leb t p && bit_in xs (p - t))

-- no mark of level 0 reaches the last word of a level when it is widened
abbrev pub Limited : List ℕ → ℕ → ℕ → Type 0
Limited ws size levels = (p : ℕ) → p < size * 64 → bit_in ws p ≡ true → p + 2 ^ (levels - 1) ≤ (size - 1) * 64

-- a slice of levels, as strings that can be moved up
pub record Levels (ws : List ℕ) (size levels : ℕ) : Type 0 where
  pub room : levels * size ≤ length ws
  pub few : levels ≤ level_bound
  pub short : length ws < length_limit
  pub spare : (k : ℕ) → k < levels → Spare (level_of ws size k)
  pub widened : (k : ℕ) → k < levels → Widened (level_of ws size 0) (2 ^ k) (level_of ws size k)
