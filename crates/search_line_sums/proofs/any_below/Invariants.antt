-- The loop's invariant of `search_line_sums::any_below`: no sum of the blocks passed is below the bound.
use Rattle.list_laws.proofs.Kit.{◌*◌}
use Rattle.search_line_sums.specs.Answers.{NoneBelow}
use Rattle.search_line_sums.proofs.any_below.Given as goal

abbrev pub invariant-loop-block : goal.invariant-loop-block
invariant-loop-block l = NoneBelow l.sums l.bound (l.block * 8)
