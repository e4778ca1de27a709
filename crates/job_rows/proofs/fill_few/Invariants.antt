-- `job_rows::fill_few`: storing the marks that are left, behind those that are stored, is what is left of storing all. Assumes nothing.
use Rattle.list_laws.proofs.Kit.{◌≡◌, ◌+◌, ◌-◌}
use Rattle.job_rows.proofs.Marks.{fill_marks}
use Rattle.job_rows.proofs.fill_few.Given as goal

abbrev pub invariant-loop-k : goal.invariant-loop-k
invariant-loop-k l = fill_marks l.text (l.count - l.k) (l.p + l.k) (l.at + l.k) l.pixels ≡ fill_marks l.text l.count l.p l.at l.initial.pixels
