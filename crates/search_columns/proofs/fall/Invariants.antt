-- `search_columns::fall`: the places from k on are lowered to their count, and n is that of place k. Assumes nothing.
use Rattle.list_laws.proofs.Kit.{◌≡◌, List, ◌-◌, min, ℕ, get_or, length}
use Rattle.list_laws.proofs.Passes.{Backing}
use Rattle.search_columns.specs.Column.{fallen}
use Rattle.search_columns.proofs.fall.Given as goal

-- what a place is set to
abbrev pub height : List ℕ → ℕ → ℕ → Type 0
height xs j y = y ≡ min (get_or xs j 0) (fallen xs j (length xs - j))

abbrev pub invariant-loop-k : goal.invariant-loop-k
invariant-loop-k l = record {
  count : l.n ≡ fallen l.fn.line l.k (length l.fn.line - l.k);
  done : Backing (height l.fn.line) l.fn.line l.line l.k;
}
