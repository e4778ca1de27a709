-- `pair_nofit::mark_interval`: the words before j are done. Assumes nothing.
use Rattle.pair_nofit.proofs.Words.{Marking}
use Rattle.pair_nofit.proofs.mark_interval.Given as goal

abbrev pub invariant-loop-j : goal.invariant-loop-j
invariant-loop-j l = Marking l.low l.high l.fn.marks l.marks l.j
