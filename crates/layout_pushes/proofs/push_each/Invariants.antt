-- `layout_pushes::push_each`: the pieces passed are pushed, one after the other. Assumes nothing.
use Rattle.list_laws.proofs.Kit.{◌≡◌}
use Rattle.model.specs.Compact.{push_below}
use Rattle.model.specs.Lent.{lent_by, job_of}
use Rattle.model.specs.Buffer.{layout_of, entries_of}
use Rattle.layout_pushes.specs.Pushable.{Pushable}
use Rattle.layout_pushes.proofs.push_each.Given as goal

abbrev pub invariant-loop-i : goal.invariant-loop-i
invariant-loop-i l =
    Pushable (lent_by l.size l.table l.pixels) l.layout l.rows l.row_spans l.columns l.column_spans
    × (l.slid ≡ (push_below (job_of (lent_by l.size l.table l.pixels)) l.i (layout_of l.initial.layout)).slid)
    × (l.layout ≡ entries_of (push_below (job_of (lent_by l.size l.table l.pixels)) l.i (layout_of l.initial.layout)).layout)
