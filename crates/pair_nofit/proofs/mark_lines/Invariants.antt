-- `pair_nofit::mark_lines`: the intervals of the strips that are in one line with the second piece raised by a number below k are kept. Assumes
-- nothing.
use Rattle.pair_nofit.specs.Marks.{Covers}
use Rattle.pair_nofit.proofs.Kept.{GapSoFar}
use Rattle.pair_nofit.proofs.mark_lines.Given as goal

abbrev pub invariant-loop-k : goal.invariant-loop-k
invariant-loop-k l = record { kept : GapSoFar l.gap l.a l.u l.b l.v l.fn.marks l.marks l.k; covers : Covers l.covered l.marks }
