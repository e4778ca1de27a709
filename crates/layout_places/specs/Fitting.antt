-- A table whose boxes fit the sheet, as every lent job that passes its check has one. Assumes nothing.
use Rattle.std.specs.Prelude.{List, ℕ, ◌<◌, ◌≤◌, length}
use Rattle.model.specs.Lent.{entry_columns, entry_rows, row_bound, column_bound, piece_bound}
use Rattle.model.specs.declared.JobSize.{JobSize}

-- a sheet and a table in which every box fits the sheet
pub record Fitting (size : JobSize) (table : List (List ℕ)) : Type 0 where
  pub few_rows : size.rows ≤ row_bound
  pub few_columns : size.columns ≤ column_bound
  pub few_pieces : size.count ≤ piece_bound
  pub entries : size.count ≤ length table
  pub columns_fit : (i : ℕ) → i < size.count → entry_columns table i ≤ size.columns
  pub rows_fit : (i : ℕ) → i < size.count → entry_rows table i ≤ size.rows
