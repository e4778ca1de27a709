-- `search_sums::total`: the sum so far is that of the rows passed, and the next row's weights begin at `from`. Assumes nothing.
use Rattle.list_laws.proofs.Kit.{◌≡◌, ◌*◌, ◌≤◌}
use Rattle.model.specs.Bounded.{sum_below}
use Rattle.search_laws.specs.Pairs.{row_start, row_part}
use Rattle.search_sums.specs.Table.{table_cost}
use Rattle.search_sums.proofs.total.Given as goal

abbrev pub invariant-loop-i : goal.invariant-loop-i
invariant-loop-i l = record {
  start : l.from ≡ row_start l.n l.i;
  small : l.sum ≤ 70368744177664 * l.i;
  sum : l.sum ≡ sum_below l.i (λ a. row_part l.n (table_cost l.penalties a) l.weights a (row_start l.n a));
}
