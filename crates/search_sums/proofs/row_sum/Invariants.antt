-- `search_sums::row_sum`: the sum so far is that of the pieces passed. Assumes nothing.
use Rattle.list_laws.proofs.Kit.{◌≡◌, ◌*◌, ◌≤◌}
use Rattle.model.specs.Bounded.{sum_below}
use Rattle.search_sums.proofs.Rows.{row_term}
use Rattle.search_sums.proofs.row_sum.Given as goal

abbrev pub invariant-loop-k : goal.invariant-loop-k
invariant-loop-k l = record {
  small : l.sum ≤ 1099511627776 * l.k;
  sum : l.sum ≡ sum_below l.k (row_term l.n l.penalties l.weights l.i);
}
