-- A lent job that passes its check has a table whose boxes fit the sheet. Assumes nothing.
use Rattle.list_laws.proofs.Kit.{◌≡◌, true, List, ℕ}
use Rattle.model.specs.Lent.{lent_by, lent_well}
use Rattle.model.specs.declared.JobSize.{JobSize}
use Rattle.job_laws.proofs.Checked.{facts}
use Rattle.layout_places.specs.Fitting.{Fitting}

-- a lent job that passes the check fits its sheet
pub fitting : (size : JobSize) (table : List (List ℕ)) (pixels : List ℕ) → lent_well (lent_by size table pixels) ≡ true → Fitting size table
fitting size table pixels e =
    let f = facts (lent_by size table pixels) e in
    record {
      few_rows = f.few_rows;
      few_columns = f.few_columns;
      few_pieces = f.few_pieces;
      entries = f.entries;
      columns_fit = f.columns_fit;
      rows_fit = f.rows_fit;
    }
