-- `search_sums::row_part`: the sum so far is that of the row's pairs passed, and the next weight is that of the pair (i, k). Assumes nothing.
use Rattle.list_laws.proofs.Kit.{◌≡◌, ◌*◌, ◌+◌, ◌-◌, ◌≤◌}
use Rattle.model.specs.Bounded.{sum_below}
use Rattle.search_laws.specs.Pairs.{part_term}
use Rattle.search_sums.specs.Table.{table_cost}
use Rattle.search_sums.proofs.row_part.Given as goal

abbrev pub invariant-loop-k : goal.invariant-loop-k
invariant-loop-k l = record {
  at : l.at + (l.i + 1) ≡ l.from + l.k;
  small : l.sum ≤ 1099511627776 * l.k;
  sum : l.sum ≡ sum_below (l.k - (l.i + 1)) (part_term (table_cost l.penalties l.i) l.weights l.i l.from);
}
