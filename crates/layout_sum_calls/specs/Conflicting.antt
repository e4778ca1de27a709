-- The first pair with a given first number that passes a test. Assumes nothing.
use Rattle.std.specs.Prelude.{Bool, List, ◌++◌, ◌≡◌, ℕ, suc, ◌-◌, ◌<◌, ◌≤◌}
use Rattle.std.proofs.Math.Option.{some}
use Rattle.model.specs.Layout.{Pair, pairs_with, first_pair}

-- the pairs (i, i + 1), (i, i + 2), .. below n, in front of others
abbrev pub row_before : ℕ → ℕ → List Pair → List Pair
row_before n i rest = pairs_with i (suc i) (n - suc i) ++ rest

-- r is the second number of the first of them that passes; from n on, none does
pub record RowFirst (test : Pair → Bool) (n i r : ℕ) : Type 0 where
  pub found : r < n → (rest : List Pair) → first_pair test (row_before n i rest) ≡ some (record { first = i; second = r })
  pub none : n ≤ r → (rest : List Pair) → first_pair test (row_before n i rest) ≡ first_pair test rest
