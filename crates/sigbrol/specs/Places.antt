-- Where a stretch begins in its store. Assumes nothing.
use Rattle.std.specs.Prelude.{List, ℕ, get_or}
use Rattle.model.specs.Calls.{Stores}
use Rattle.model.specs.declared.Direction.{Direction}
use Rattle.model.specs.declared.Direction.TheVariants.{Horizontal, Vertical}

-- the start of piece i, of the row starts or the column starts
abbrev pub start_in : Direction → List ℕ → List ℕ → ℕ → ℕ
start_in Horizontal row_starts column_starts i = get_or row_starts i 0
start_in Vertical row_starts column_starts i = get_or column_starts i 0

-- where the stretch of piece i begins
abbrev pub stretch_start : Direction → Stores → ℕ → ℕ
stretch_start d lent i = start_in d lent.row_starts lent.column_starts i
