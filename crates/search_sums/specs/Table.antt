-- The table of pair penalties and the weights beside it, as lent buffers. Assumes nothing.
use Rattle.std.specs.Prelude.{Bool, true, false, List, ◌≡◌, ℕ, ◌+◌, ◌≤◌, eqb, ltb, length, get_or, set}
use Rattle.model.specs.Layout.{pairs}
use Rattle.model.specs.Guided.{weight_bound}
use Rattle.model.specs.Lent.{piece_bound}
use Rattle.search_laws.specs.Table.{entry}

-- a table of at most 64 pieces and one weight a pair
pub record Weighed (n : ℕ) (T ws : List ℕ) : Type 0 where
  pub few : n ≤ piece_bound
  pub size : length T ≡ 4096
  pub one_per_pair : length ws ≡ length (pairs n)

-- what piece k costs in row i of the table
abbrev pub table_cost : List ℕ → ℕ → ℕ → ℕ
table_cost T i k = get_or T (entry i k) 0

-- the weights after that of a pair is raised by 1: unless its penalty is 0 or it is the largest
abbrev pub raised_by : Bool → Bool → List ℕ → ℕ → List ℕ
raised_by true below ws at = ws
raised_by false true ws at = set ws at (get_or ws at 0 + 1)
raised_by false false ws at = ws

unfoldable pub raised_at : List ℕ → ℕ → ℕ → List ℕ
raised_at ws at penalty = raised_by (eqb penalty 0) (ltb (get_or ws at 0) weight_bound) ws at
