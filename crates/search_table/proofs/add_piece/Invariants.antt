-- `search_table::add_piece`: the entries of the piece with those passed are made, and what is made of strips stands. Assumes nothing.
use Rattle.list_laws.proofs.Kit.{◌≡◌, ◌+◌}
use Rattle.model.specs.Layout.{place_of}
use Rattle.model.specs.Lent.{lent_by, job_of}
use Rattle.model.specs.Buffer.{layout_of}
use Rattle.model.specs.declared.Direction.TheVariants.{Horizontal, Vertical}
use Rattle.model.specs.declared.JobSize.{JobSize}
use Rattle.search_laws.specs.Table.{PenaltyTable, Renewed}
use Rattle.layout_strips.specs.Kept.{Kept}
use Rattle.search_table.proofs.add_piece.Given as goal

abbrev pub invariant-loop-k : goal.invariant-loop-k
invariant-loop-k l = record {
  rows : Kept Horizontal l.table l.pixels l.layout l.rows l.row_spans;
  columns : Kept Vertical l.table l.pixels l.layout l.columns l.column_spans;
  renewed :
      (size : JobSize) → size.gap ≡ l.gap → PenaltyTable (job_of (lent_by size l.table l.pixels)) (layout_of l.layout) l.i l.fn.penalties
      → Renewed (job_of (lent_by size l.table l.pixels)) (layout_of l.layout) (l.i + 1) l.i (place_of (layout_of l.layout) l.i) l.k l.penalties;
}
