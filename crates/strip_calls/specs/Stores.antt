-- The lent stores, and where a stretch is cut. Assumes nothing.
use Rattle.std.specs.Prelude.{List, ℕ, suc, ◌≤◌, ◌<◌, length, get_or}
use Rattle.model.specs.Calls.{Stores}

-- the lent stores and starts
abbrev pub stores_by : List (List ℕ) → List ℕ → List (List ℕ) → List ℕ → Stores
stores_by row_strips row_starts column_strips column_starts =
    record { row_strips = row_strips; row_starts = row_starts; column_strips = column_strips; column_starts = column_starts }

-- a piece's start and the next one are there and cut a part out of the store
pub record Cut (strips : List (List ℕ)) (lentStarts : List ℕ) (i : ℕ) : Type 0 where
  pub there : suc i < length lentStarts
  pub order : get_or lentStarts i 0 ≤ get_or lentStarts (suc i) 0
  pub within : get_or lentStarts (suc i) 0 ≤ length strips
