-- `pair_nofit::mark_all`: the meetings of the strips passed are kept; the strips of the second before j lie in earlier lines than the rest
-- of the first. Assumes nothing.
use Rattle.pair_nofit.specs.Marks.{Covers}
use Rattle.pair_nofit.proofs.Kept.{AllSoFar}
use Rattle.pair_nofit.proofs.mark_all.Given as goal

abbrev pub invariant-loop-i : goal.invariant-loop-i
invariant-loop-i l = record { kept : AllSoFar l.gap l.a l.u l.b l.v l.fn.marks l.marks l.i l.j; covers : Covers l.covered l.marks }
