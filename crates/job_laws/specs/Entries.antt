-- An entry of a job's table as the code reads it. Assumes nothing.
use Rattle.std.specs.Prelude.{List, ◌≡◌, ℕ, ◌≤◌, ◌<◌, length}
use Rattle.model.specs.Lent.{entry_columns, entry_rows, pixel_start, area_bound}
use Rattle.model.specs.Piece.{side_bound}

-- entry i of the table is there and within document 01's bounds, and its piece's pixels begin at `start`
pub record EntryAt (table : List (List ℕ)) (i start : ℕ) : Type 0 where
  pub within : i < length table
  pub columns : entry_columns table i ≤ side_bound
  pub rows : entry_rows table i ≤ side_bound
  pub begins : start ≡ pixel_start table i
  pub small : start ≤ area_bound
