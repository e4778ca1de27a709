-- `strip_store::fill::fill`: storing the strips and starts of the pieces from `i` on is all that is left to do. Assumes nothing.
use Rattle.list_laws.proofs.Kit.{◌-◌}
use Rattle.model.specs.Lent.{lent_by, job_of}
use Rattle.strip_store.proofs.Filling.{Filling}
use Rattle.strip_store.proofs.fill.fill.Given as goal

abbrev pub invariant-loop-i : goal.invariant-loop-i
invariant-loop-i l =
    Filling l.direction (job_of (lent_by l.size l.table l.pixels)) l.turns l.initial.strips l.initial.starts l.strips l.starts l.at l.i (l.size.count - l.i)
