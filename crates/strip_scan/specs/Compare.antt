-- What comparing strips with a store comes to. Assumes nothing.
use Rattle.std.specs.Prelude.{Bool, true, false, List, map, ℕ, ◌+◌, length, take, drop, Option, Some, None}
use Rattle.model.specs.Strip.{Strip}
use Rattle.model.specs.Buffer.{strip_entry, same_entries}

-- the strips stand in the store from `at` on
abbrev pub stand_in : List Strip → List (List ℕ) → ℕ → Bool
stand_in ts store at = same_entries (take (length ts) (drop at store)) (map strip_entry ts)

-- the place up to which they do, else none
abbrev pub compared_by : Bool → ℕ → Option ℕ
compared_by true end = Some end
compared_by false end = None

-- what comparing the strips with the store from `at` on comes to
unfoldable pub compared : List Strip → List (List ℕ) → ℕ → Option ℕ
compared ts store at = compared_by (stand_in ts store at) (at + length ts)
