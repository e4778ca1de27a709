-- A guided run's result from its parts: the contract of the guided run cites it. Assumes nothing.
use Rattle.std.specs.Prelude.{List, ℕ}
use Rattle.model.specs.Layout.{Layout}
use Rattle.model.specs.Guided.{Guided}

-- what a guided run gives that ends with these
abbrev pub guided_of : Layout → ℕ → List ℕ → ℕ → ℕ → Guided
guided_of best bestSum ws made moves = record { layout = best; sum = bestSum; weights = ws; made = made; moves = moves }
