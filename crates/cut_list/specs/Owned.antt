-- The lines between different owners, and a layout whose lines they are. Assumes nothing.
use Rattle.std.specs.Prelude.{List, [], ◌∷◌, ℕ, ◌≤◌, length}
use Rattle.model.specs.Lent.{Lent, job_of, column_bound}
use Rattle.model.specs.Buffer.{layout_of}
use Rattle.model.specs.Refusal.{Outcome, unless}
use Rattle.model.specs.Calls.{at_least}
use Rattle.model.specs.Cut.{CutLine, lines_of}
use Rattle.model.specs.declared.JobSize.{JobSize}
use Rattle.model.specs.declared.Direction.{Direction}
use Rattle.model.specs.declared.Direction.TheVariants.{Horizontal, Vertical}
use Rattle.descent_laws.specs.Claims.{NoConflict}
use Rattle.descent_laws.specs.LentLayout.{Laid}
use Rattle.cut_scan.specs.Scan.{grid_units}
use Rattle.cut_scan.specs.declared.Grid.{Grid}

-- the owners of a sheet as a direction sees them, row by row in their buffer
abbrev pub grid_of : Direction → JobSize → Grid
grid_of Horizontal size = record { length = size.columns; lines = size.rows; along = 1; across = size.columns }
grid_of Vertical size = record { length = size.rows; lines = size.columns; along = size.columns; across = 1 }

-- the lines between different owners
unfoldable pub owned_lines : JobSize → List ℕ → List CutLine
owned_lines size os = lines_of (λ d. grid_units d os (grid_of d size))

-- the lines, or refusal 7 where a buffer of so many entries is too short for them
abbrev pub in_room : List CutLine → ℕ → Outcome (List CutLine)
in_room ls room = unless (at_least (length ls) room ∷ []) ls

-- both sides of a sheet are at most document 01's limit of columns
pub record SmallSheet (size : JobSize) : Type 0 where
  pub rows : size.rows ≤ column_bound
  pub columns : size.columns ≤ column_bound

-- a checked job and a valid layout in which no two pieces conflict
pub record LaidApart (l : Lent) (layout : List (List ℕ)) : Type 0 where
  pub laid : Laid l layout
  pub apart : NoConflict (job_of l) (layout_of layout)
