-- `layout_sum_calls::conflicting::conflicting_in_row`: the row's first pair that conflicts is among those left, and what is made of strips
-- stands. Assumes nothing.
use Rattle.list_laws.proofs.Kit.{◌≡◌, length}
use Rattle.model.specs.Layout.{pair_conflicts}
use Rattle.model.specs.Lent.{lent_by, job_of}
use Rattle.model.specs.Buffer.{layout_of}
use Rattle.model.specs.declared.Direction.TheVariants.{Horizontal}
use Rattle.model.specs.declared.JobSize.{JobSize}
use Rattle.layout_strips.specs.Kept.{Kept}
use Rattle.layout_sum_calls.proofs.FirstPair.{LeftInRow}
use Rattle.layout_sum_calls.proofs.conflicting.conflicting_in_row.Given as goal

abbrev pub invariant-loop-k : goal.invariant-loop-k
invariant-loop-k l =
    ((size : JobSize) → size.gap ≡ l.gap
    → LeftInRow (pair_conflicts (job_of (lent_by size l.table l.pixels)) (layout_of l.layout)) (length l.layout) l.i l.k)
    × Kept Horizontal l.table l.pixels l.layout l.rows l.row_spans
