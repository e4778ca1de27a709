-- How far a set bit of a map lies from a clear one, along its row and across the rows, which are w bits wide. Assumes nothing.
use Rattle.std.specs.Prelude.{Bool, true, false, ◌&&◌, List, ◌≡◌, ℕ, ◌+◌, ◌-◌, ◌*◌, ◌<◌, ◌≤◌, ltb, length, get_or}
use Rattle.bit_laws.specs.Bit.{bit_at, bit_in, length_limit}

-- a by the test, or b
abbrev pub pick_n : Bool → ℕ → ℕ → ℕ
pick_n true a b = a
pick_n false a b = b

-- 64 bits from p on
pub record BitsAt (ws : List ℕ) (p r : ℕ) : Type 0 where
  pub small : r < 18446744073709551616
  pub each : (i : ℕ) → i < 64 → bit_at r i ≡ bit_in ws (p + i)

-- the first `count` bits are set, and no other
pub record LowBits (count r : ℕ) : Type 0 where
  pub each : (i : ℕ) → bit_at r i ≡ ltb i count

-- the places t away from p are set on all four sides
unfoldable pub around : List ℕ → ℕ → ℕ → ℕ → Bool
around ws w p t = ((bit_in ws (p + t) && bit_in ws (p - t)) && bit_in ws (p + t * w)) && bit_in ws (p - t * w)

-- what is left of v's bits
pub record Inner (ws : List ℕ) (w p r v n : ℕ) : Type 0 where
  pub below : n ≤ v
  pub each : (i : ℕ) → i < 64 → bit_at n i ≡ (bit_at v i && around ws w (p + i) r)

-- every bit of m, counted from `at` on, is below the bound
pub record BitsIn (m at bound : ℕ) : Type 0 where
  pub each : (x : ℕ) → bit_at m x ≡ true → at + x < bound
  pub small : bound < length_limit

-- line ys is xs with v at the places of m's bits, from `at` on
pub record Filled (at m v : ℕ) (xs ys : List ℕ) : Type 0 where
  pub same : length ys ≡ length xs
  pub each : (x : ℕ) → get_or ys (at + x) 0 ≡ pick_n (bit_at m x) v (get_or xs (at + x) 0)
  pub before : (k : ℕ) → k < at → get_or ys k 0 ≡ get_or xs k 0

-- n is the least distance, from 1 on, at which a side of p is clear
pub record Distance (ws : List ℕ) (w p n : ℕ) : Type 0 where
  pub some : 1 ≤ n
  pub before : (t : ℕ) → 1 ≤ t → t < n → around ws w p t ≡ true
  pub here : around ws w p n ≡ false

-- the place of a set bit holds its distance, that of a clear one what it held
pub record PlaceDone (ws : List ℕ) (w p old new : ℕ) : Type 0 where
  pub marked : bit_in ws p ≡ true → Distance ws w p new
  pub clear : bit_in ws p ≡ false → new ≡ old

-- a side of p is clear at a distance from 1 to the reach. It need not be clear farther on: along a row the bits past its end are those of the next
pub record EndsBy (ws : List ℕ) (w p reach : ℕ) : Type 0 where
  pub at : ℕ
  pub some : 1 ≤ at
  pub near : at ≤ reach
  pub clear : around ws w p at ≡ false

-- within the reach a side of each of the places is clear, and all that is read up to it lies in the map
pub record Reaches (ws : List ℕ) (w p count : ℕ) : Type 0 where
  pub reach : ℕ
  pub wide : 1 ≤ w
  pub short : reach < 256
  pub low : reach * w ≤ p
  pub high : p + reach * w + 128 ≤ length ws * 64
  pub room : length ws < length_limit
  pub few : (1 ≤ count) × (count ≤ 64)
  pub ends : (x : ℕ) → x < count → EndsBy ws w (p + x) reach

-- `count` places of the line, from `at` on, are done
pub record Peeled (ws : List ℕ) (w p count at : ℕ) (xs ys : List ℕ) : Type 0 where
  pub same : length ys ≡ length xs
  pub each : (x : ℕ) → x < count → PlaceDone ws w (p + x) (get_or xs (at + x) 0) (get_or ys (at + x) 0)
  pub before : (k : ℕ) → k < at → get_or ys k 0 ≡ get_or xs k 0
  pub after : (k : ℕ) → at + count ≤ k → get_or ys k 0 ≡ get_or xs k 0
