-- `search_sums::raise_row`: the weights at positions before `at` are raised, and `at` is the position of the pair (i, k). Assumes nothing.
use Rattle.list_laws.proofs.Kit.{◌≡◌, List, ◌+◌, ℕ}
use Rattle.model.specs.Layout.{Job, Layout}
use Rattle.descent_laws.specs.Claims.{ValidWeights}
use Rattle.search_laws.specs.Table.{PenaltyTable}
use Rattle.search_laws.specs.Raising.{Raising}
use Rattle.search_sums.proofs.raise_row.Given as goal

abbrev pub invariant-loop-k : goal.invariant-loop-k
invariant-loop-k l = record {
  at : l.at + (l.i + 1) ≡ l.from + l.k;
  raised :
      (j : Job) (v : Layout) (ws : List ℕ) → j.size.count ≡ l.n → PenaltyTable j v l.n l.penalties → ValidWeights j ws
      → Raising j v ws l.from l.fn.weights → Raising j v ws l.at l.weights;
}
