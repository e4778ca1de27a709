-- The loop's invariant of `search_line_sums::least_of`: `low` and `at` are the search's answer for the sums passed.
use Rattle.search_line_sums.proofs.Scans.{Scanned}
use Rattle.search_line_sums.proofs.least_of.Given as goal

abbrev pub invariant-loop-a : goal.invariant-loop-a
invariant-loop-a l = Scanned l.sums l.bound l.low l.at l.a
