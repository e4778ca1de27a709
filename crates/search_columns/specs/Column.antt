-- How far the places of a column of a map lie from a clear bit: along their rows, and up and down the column, whose places are w bits apart.
-- Assumes nothing.
use Rattle.std.specs.Prelude.{Bool, true, false, not, ◌&&◌, List, ◌≡◌, ℕ, zero, suc, ◌+◌, ◌-◌, ◌*◌, ◌<◌, ◌≤◌, min, length, get_or}
use Rattle.bit_laws.specs.Bit.{bit_at, bit_in, length_limit}
use Rattle.search_peel.specs.Peel.{around, EndsBy}

-- the largest number that a byte holds
abbrev pub byte_most : ℕ
byte_most = 255

-- n is the least number that fails the test
pub record FirstClear (f : ℕ → Bool) (n : ℕ) : Type 0 where
  pub before : (t : ℕ) → t < n → f t ≡ true
  pub here : f n ≡ false

-- n is the least number below the bound that fails the test, or the bound where none does
pub record FirstWithin (f : ℕ → Bool) (bound n : ℕ) : Type 0 where
  pub few : n ≤ bound
  pub before : (t : ℕ) → t < n → f t ≡ true
  pub here : n < bound → f n ≡ false

-- the bits t away from p are set on both sides
unfoldable pub beside : List ℕ → ℕ → ℕ → Bool
beside ws p t = bit_in ws (p + t) && bit_in ws (p - t)

-- the bits t away from p are set on both sides and t rows below
unfoldable pub under : List ℕ → ℕ → ℕ → ℕ → Bool
under ws w p t = beside ws p t && bit_in ws (p - t * w)

-- the clear bits at and above p, as many of them as the size says: the one t above p stands at t
pub record ClearAbove (ws : List ℕ) (p size r : ℕ) : Type 0 where
  pub small : r < 18446744073709551616
  pub each : (t : ℕ) → t < size → bit_at r t ≡ not (bit_in ws (p + t))

-- those at and below p: the one t below p stands t below the word's top
pub record ClearBelow (ws : List ℕ) (p size r : ℕ) : Type 0 where
  pub small : r < 18446744073709551616
  pub each : (t : ℕ) → t ≤ p → t < size → bit_at r (63 - t) ≡ not (bit_in ws (p - t))

-- n + k is the least distance from n on at which a side of p is clear, where it is below n + size
pub record GapWithin (ws : List ℕ) (p n size k : ℕ) : Type 0 where
  pub few : k ≤ 64
  pub before : (i : ℕ) → i < k → i < size → n + i ≤ p → beside ws p (n + i) ≡ true
  pub here : k < size → n + k ≤ p → beside ws p (n + k) ≡ false

-- at the reach a side of p is clear, and all that is read up to it lies in the map
pub record Walled (ws : List ℕ) (p : ℕ) : Type 0 where
  pub reach : ℕ
  pub clear : beside ws p reach ≡ false
  pub low : reach ≤ p
  pub high : p + reach + 128 ≤ length ws * 64
  pub room : length ws < length_limit

-- so it is for n places of a column, the first of them at p
pub record ColumnWalled (ws : List ℕ) (w p n : ℕ) : Type 0 where
  pub each : (y : ℕ) → y < n → Walled ws (p + y * w)
  pub small : p + n * w < length_limit

-- each place holds how far its bit lies from a clear one along its row or down the column, or the largest number of a byte where none is nearer
pub record SidesDone (ws : List ℕ) (w p : ℕ) (xs ys : List ℕ) : Type 0 where
  pub same : length ys ≡ length xs
  pub each : (y : ℕ) → y < length xs → FirstWithin (under ws w (p + y * w)) byte_most (get_or ys y 0)

-- one more than the count n at a neighbour, but 0 at a clear place
abbrev pub counted : ℕ → ℕ → ℕ
counted zero n = 0
counted (suc v) n = suc n

-- how many places, from k on and with `left` of them left, hold no 0
abbrev pub fallen : List ℕ → ℕ → ℕ → ℕ
fallen xs k zero = 0
fallen xs k (suc left) = counted (get_or xs k 0) (fallen xs (suc k) left)

-- every place is lowered to the count from it on
pub record Fallen (xs ys : List ℕ) : Type 0 where
  pub same : length ys ≡ length xs
  pub at : (k : ℕ) → k < length xs → get_or ys k 0 ≡ min (get_or xs k 0) (fallen xs k (length xs - k))

-- the bits before the column's first place and after its last are clear
pub record Ended (ws : List ℕ) (w p n : ℕ) : Type 0 where
  pub past : w ≤ p
  pub floor : bit_in ws (p - w) ≡ false
  pub top : bit_in ws (p + n * w) ≡ false

-- a side of each of n places of a column, the first of them at p, is clear at a distance that a byte holds
pub record ColumnEnds (ws : List ℕ) (w p n : ℕ) : Type 0 where
  pub each : (y : ℕ) → y < n → EndsBy ws w (p + y * w) byte_most

-- each place holds how far its bit lies from a clear one, to all four sides
pub record ColumnDone (ws : List ℕ) (w p : ℕ) (xs ys : List ℕ) : Type 0 where
  pub same : length ys ≡ length xs
  pub each : (y : ℕ) → y < length xs → FirstClear (around ws w (p + y * w)) (get_or ys y 0)
