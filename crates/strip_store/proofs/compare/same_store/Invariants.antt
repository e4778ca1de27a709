-- `strip_store::compare::same_store`: comparing the pieces from `i` on decides it. Assumes nothing.
use Rattle.list_laws.proofs.Kit.{◌-◌}
use Rattle.model.specs.Lent.{lent_by, job_of}
use Rattle.strip_store.proofs.Checking.{Checking}
use Rattle.strip_store.proofs.compare.same_store.Given as goal

abbrev pub invariant-loop-i : goal.invariant-loop-i
invariant-loop-i l = Checking l.direction (job_of (lent_by l.size l.table l.pixels)) l.turns l.strips l.starts l.at l.i (l.size.count - l.i)
