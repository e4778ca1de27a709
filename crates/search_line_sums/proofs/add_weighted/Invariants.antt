-- The loop's invariant of `search_line_sums::add_weighted`: the sums passed have their part, the others are as they were.
use Rattle.list_laws.proofs.Kit.{◌+◌}
use Rattle.list_laws.proofs.Passes.{Passing}
use Rattle.search_line_sums.proofs.Scans.{Raised}
use Rattle.search_line_sums.proofs.add_weighted.Given as goal

abbrev pub invariant-loop-k : goal.invariant-loop-k
invariant-loop-k l = Passing (Raised l.weight l.low l.line l.initial.sums) l.initial.sums l.sums (l.low + l.k)
