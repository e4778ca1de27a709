-- `pair_nofit::line_start`: the strips passed lie in earlier lines. Assumes nothing.
use Rattle.list_laws.proofs.Kit.{◌+◌, ◌<◌, ◌≤◌, ℕ}
use Rattle.pair_overlap.specs.Meet.{strip_at}
use Rattle.pair_nofit.proofs.line_start.Given as goal

abbrev pub invariant-loop-j : goal.invariant-loop-j
invariant-loop-j l = (k : ℕ) → l.from ≤ k → k < l.j → (strip_at l.s k).line + l.u.across < l.line
