-- The weights while they are raised pair after pair. Assumes nothing.
use Rattle.std.specs.Prelude.{List, ◌≡◌, ℕ, ◌<◌, ◌≤◌, length, get_or}
use Rattle.model.specs.Layout.{Job, Layout}
use Rattle.model.specs.Guided.{raised}

-- the weights of the pairs at positions below c are raised, the others are as before
pub record Raising (j : Job) (v : Layout) (ws : List ℕ) (c : ℕ) (now : List ℕ) : Type 0 where
  pub size : length now ≡ length ws
  pub done : (k : ℕ) → k < c → get_or now k 0 ≡ get_or (raised j v ws) k 0
  pub rest : (k : ℕ) → c ≤ k → get_or now k 0 ≡ get_or ws k 0
