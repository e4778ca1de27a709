-- Runs of marked offsets, as a run buffer holds them. Assumes nothing.
use Rattle.std.specs.Prelude.{Bool, true, false, not, List, map, ◌≡◌, ℕ, ◌+◌, ◌<◌, ◌≤◌, ℤ, length}
use Rattle.std.proofs.lemmas.List.Edits.{sets}
use Rattle.model.specs.Strip.{Run}
use Rattle.model.specs.Overlap.{unbiased, offset_bound}
use Rattle.model.specs.Buffer.{run_entry}
use Rattle.bit_laws.specs.Bit.{bit_at, bit_in}

-- the number of offsets of a no-fit line: from -262 to 262
abbrev pub offset_count : ℕ
offset_count = 525

-- an offset that goes so far either way parts any two pieces, whatever the gap
abbrev pub farthest : ℕ
farthest = offset_bound + 1

-- a run of biased offsets as an entry of a run buffer
abbrev pub offset_entry : Run → List ℤ
offset_entry r = run_entry (unbiased r)

-- a word whose set bits are those of another that have the given value
pub record Sought (word : ℕ) (bit : Bool) (r : ℕ) : Type 0 where
  pub small : r < 18446744073709551616
  pub set : (i : ℕ) → i < 64 → bit_at r i ≡ true → bit_at word i ≡ bit
  pub clear : (i : ℕ) → i < 64 → bit_at r i ≡ false → bit_at word i ≡ not bit

-- the first place from k on whose bit has the given value, or the number of places where there is none
pub record NextPlace (marks : List ℕ) (bit : Bool) (k r : ℕ) : Type 0 where
  pub low : k ≤ r
  pub high : r ≤ offset_count
  pub before : (m : ℕ) → k ≤ m → m < r → bit_in marks m ≡ not bit
  pub here : r < offset_count → bit_in marks r ≡ bit

-- runs put into a buffer from `at` on, as far as there is room, and where the next would stand
pub record Put (rs : List Run) (before : List (List ℤ)) (at : ℕ) (after : List (List ℤ)) (next : ℕ) : Type 0 where
  pub end : next ≡ at + length rs
  pub stored : after ≡ sets before at (map offset_entry rs)
