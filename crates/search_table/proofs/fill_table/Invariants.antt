-- `search_table::fill_table`: the table of the pieces passed is made, and what is made of strips stands. Assumes nothing.
use Rattle.list_laws.proofs.Kit.{◌≡◌}
use Rattle.model.specs.Lent.{lent_by, job_of}
use Rattle.model.specs.Buffer.{layout_of}
use Rattle.model.specs.declared.Direction.TheVariants.{Horizontal, Vertical}
use Rattle.model.specs.declared.JobSize.{JobSize}
use Rattle.search_laws.specs.Table.{PenaltyTable}
use Rattle.layout_strips.specs.Kept.{Kept}
use Rattle.search_table.proofs.fill_table.Given as goal

abbrev pub invariant-loop-i : goal.invariant-loop-i
invariant-loop-i l = record {
  rows : Kept Horizontal l.table l.pixels l.layout l.rows l.row_spans;
  columns : Kept Vertical l.table l.pixels l.layout l.columns l.column_spans;
  made : (size : JobSize) → size.gap ≡ l.gap → PenaltyTable (job_of (lent_by size l.table l.pixels)) (layout_of l.layout) l.i l.penalties;
}
