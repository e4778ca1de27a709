-- `layout_sum_calls::conflicting::first_conflicting`: the first pair that conflicts is among those of the rows left, and what is made of strips
-- stands. Assumes nothing.
use Rattle.list_laws.proofs.Kit.{◌≡◌, ◌-◌, length}
use Rattle.model.specs.Layout.{pair_conflicts, pairs_from, first_pair, conflicting_pair}
use Rattle.model.specs.Lent.{lent_by, job_of}
use Rattle.model.specs.Buffer.{layout_of}
use Rattle.model.specs.declared.Direction.TheVariants.{Horizontal}
use Rattle.model.specs.declared.JobSize.{JobSize}
use Rattle.layout_strips.specs.Kept.{Kept}
use Rattle.layout_sum_calls.proofs.conflicting.first_conflicting.Given as goal

abbrev pub invariant-loop-i : goal.invariant-loop-i
invariant-loop-i l =
    ((size : JobSize) → size.gap ≡ l.gap → size.count ≡ length l.layout
    → conflicting_pair (job_of (lent_by size l.table l.pixels)) (layout_of l.layout)
    ≡ first_pair (pair_conflicts (job_of (lent_by size l.table l.pixels)) (layout_of l.layout)) (pairs_from l.i (length l.layout - l.i)))
    × Kept Horizontal l.table l.pixels l.layout l.rows l.row_spans
