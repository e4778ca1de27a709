-- `job_rows::some_wrong`: what is told of the bytes passed. Assumes nothing.
use Rattle.list_laws.proofs.Kit.{◌≡◌}
use Rattle.job_rows.specs.Stores.{some_wrong}
use Rattle.job_rows.proofs.some_wrong.Given as goal

abbrev pub invariant-loop-k : goal.invariant-loop-k
invariant-loop-k l = l.wrong ≡ some_wrong l.text l.p l.k
