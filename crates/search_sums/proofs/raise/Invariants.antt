-- `search_sums::raise`: the weights before the next row's are raised. Assumes nothing.
use Rattle.list_laws.proofs.Kit.{◌≡◌}
use Rattle.model.specs.Layout.{Job, Layout}
use Rattle.descent_laws.specs.Claims.{ValidWeights}
use Rattle.search_laws.specs.Pairs.{row_start}
use Rattle.search_laws.specs.Table.{PenaltyTable}
use Rattle.search_laws.specs.Raising.{Raising}
use Rattle.search_sums.proofs.raise.Given as goal

abbrev pub invariant-loop-i : goal.invariant-loop-i
invariant-loop-i l = record {
  start : l.from ≡ row_start l.n l.i;
  raised :
      (j : Job) (v : Layout) → j.size.count ≡ l.n → PenaltyTable j v l.n l.penalties → ValidWeights j l.fn.weights
      → Raising j v l.fn.weights l.from l.weights;
}
