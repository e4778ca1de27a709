-- The line search with a bound: the least sum below it and the smallest place that has it. Assumes nothing.
use Rattle.std.specs.Prelude.{true, false, ◌≡◌, ℕ, zero, suc, ◌<◌, ◌≤◌, ltb}
use Rattle.std.proofs.Math.Option.{Option, none, some}
use Rattle.model.specs.Search.{Best}

-- a sum and the number that has it
abbrev pub best_at : ℕ → ℕ → Best
best_at x n = record { sum = x; at = n }

-- what a value has to be below: the best sum so far, else the bound
abbrev pub limit : ℕ → Option Best → ℕ
limit B none = B
limit B (some b) = b.sum

-- one more value x, at number n
unfoldable pub lowered : ℕ → Option Best → ℕ → ℕ → Option Best
lowered B o x n = elim (ltb x (limit B o)) [ true ↦ some (best_at x n) | false ↦ o ]

-- the least of f 0, .., f (n - 1) and the smallest number that has it, if it is below B
unfoldable pub below_bound : (ℕ → ℕ) → ℕ → ℕ → Option Best
below_bound f zero B = none
below_bound f (suc n) B = lowered B (below_bound f n B) (f n) n

-- y serves for x where only values below L count: it is x where x is below L, else it too reaches L
pub record Serves (L x y : ℕ) : Type 0 where
  pub exact : x < L → y ≡ x
  pub reaches : L ≤ x → L ≤ y
