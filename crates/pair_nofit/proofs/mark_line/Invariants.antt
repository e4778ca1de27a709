-- `pair_nofit::mark_line`: the meetings of the strip with those passed are kept, and the marks stay sound. Assumes nothing.
use Rattle.list_laws.proofs.Kit.{◌<◌, ◌≤◌, ℕ}
use Rattle.pair_nofit.specs.Marks.{Covers, Grown, MeetingsKept}
use Rattle.pair_nofit.proofs.mark_line.Given as goal

abbrev pub invariant-loop-j : goal.invariant-loop-j
invariant-loop-j l = record {
  grown : Grown l.gap l.a l.u l.b l.v l.fn.marks l.marks;
  kept : (k : ℕ) → l.from ≤ k → k < l.j → MeetingsKept l.gap l.a l.u l.b l.v l.marks l.i k;
  covers : Covers l.covered l.marks;
}
