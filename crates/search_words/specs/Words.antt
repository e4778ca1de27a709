-- A string of bits that takes over another, moved up. Assumes nothing.
use Rattle.std.specs.Prelude.{Bool, true, false, ◌&&◌, ◌||◌, List, ◌≡◌, ℕ, ◌+◌, ◌-◌, ◌*◌, ◌/◌, ◌<◌, ◌≤◌, leb, length, get_or}
use Rattle.model.specs.Bounded.{any_below}
use Rattle.bit_laws.specs.Bit.{bit_in}

-- the first words are 0, the others as they were
pub record Cleared (count : ℕ) (xs ys : List ℕ) : Type 0 where
  pub same : length ys ≡ length xs
  pub zero : (k : ℕ) → k < count → get_or ys k 0 ≡ 0
  pub rest : (k : ℕ) → count ≤ k → get_or ys k 0 ≡ get_or xs k 0

-- bit x of a row that takes over another's bits, moved up by s
unfoldable pub or_bit : List ℕ → ℕ → List ℕ → ℕ → ℕ → ℕ → Bool
or_bit xs at fs start s x = bit_in xs (at * 64 + x) || (leb s x && bit_in fs (start * 64 + (x - s)))

-- the words from `at` on take over those from `start` on of another list, moved up by s
pub record OrRow (xs : List ℕ) (at : ℕ) (fs : List ℕ) (start blocks s : ℕ) (ys : List ℕ) : Type 0 where
  pub same : length ys ≡ length xs
  pub row : (x : ℕ) → x < blocks * 64 → bit_in ys (at * 64 + x) ≡ or_bit xs at fs start s x
  pub before : (j : ℕ) → j < at → get_or ys j 0 ≡ get_or xs j 0
  pub after : (j : ℕ) → at + blocks ≤ j → get_or ys j 0 ≡ get_or xs j 0

-- the last word is clear
pub record Spare (fs : List ℕ) : Type 0 where
  pub last : (p : ℕ) → length fs ≤ p / 64 + 1 → bit_in fs p ≡ false

-- all of a string is taken over by another, moved up by s
pub record OrFlat (xs fs : List ℕ) (s : ℕ) (ys : List ℕ) : Type 0 where
  pub same : length ys ≡ length xs
  pub each : (p : ℕ) → bit_in ys p ≡ (bit_in xs p || (leb s p && bit_in fs (p - s)))

-- ws has n marks, from its own place upwards, for each mark of bs
abbrev pub Widened : List ℕ → ℕ → List ℕ → Type 0
Widened bs n ws = (p : ℕ) → bit_in ws p ≡ any_below n (λ t. leb t p && bit_in bs (p - t))

-- the marks of a strip of `count` pixels at a place are taken over: each of bs's, moved up by each of the strip's places
pub record StripMarked (xs bs : List ℕ) (place count : ℕ) (ys : List ℕ) : Type 0 where
  pub same : length ys ≡ length xs
  pub each : (p : ℕ) → bit_in ys p ≡ (bit_in xs p || (leb place p && any_below count (λ t. leb t (p - place) && bit_in bs (p - place - t))))

-- so it is for the string whose marks ws widens
abbrev pub StripOf : List ℕ → List ℕ → ℕ → ℕ → ℕ → List ℕ → Type 0
StripOf xs ws n place count ys = (bs : List ℕ) → Widened bs n ws → StripMarked xs bs place count ys

-- the first `count` words take over their own bits, moved up by s; the others are as they were
pub record Spread (count s : ℕ) (xs ys : List ℕ) : Type 0 where
  pub same : length ys ≡ length xs
  pub each : (p : ℕ) → p < count * 64 → bit_in ys p ≡ or_bit xs 0 xs 0 s p
  pub rest : (j : ℕ) → count ≤ j → get_or ys j 0 ≡ get_or xs j 0

-- a set bit of xs lies fewer than n units below p
pub record Below (xs : List ℕ) (unit n p : ℕ) : Type 0 where
  pub t : ℕ
  pub q : ℕ
  pub few : t < n
  pub marked : bit_in xs q ≡ true
  pub place : p ≡ q + t * unit

-- the first `count` words take over their own bits, moved up by 1, 2, .., n - 1 units: a bit is set exactly where one is set so far below it
pub record Repeated (count unit n : ℕ) (xs ys : List ℕ) : Type 0 where
  pub same : length ys ≡ length xs
  pub set : (p : ℕ) → p < count * 64 → Below xs unit n p → bit_in ys p ≡ true
  pub only : (p : ℕ) → p < count * 64 → bit_in ys p ≡ true → Below xs unit n p
