-- Pairs in order, and how large a weighted sum grows (document 01, 'No-fit rows and penalty'). Assumes nothing.
use Rattle.std.specs.Prelude.{ℕ, ◌<◌, ◌≤◌, ◌*◌}
use Rattle.model.specs.Layout.{Pair}
use Rattle.model.specs.Guided.{weight_bound}
use Rattle.model.specs.Piece.{side_bound}

-- two numbers from i on and below n, the lower first
pub record PairOrdered (i n : ℕ) (p : Pair) : Type 0 where
  pub from : i ≤ p.first
  pub rising : p.first < p.second
  pub below : p.second < n

-- a bound of the weighted sum: 2,016 pairs, each of weight 65,535 and penalty 255, which is more than any has
abbrev pub sum_bound : ℕ
sum_bound = 2016 * (weight_bound * side_bound)
