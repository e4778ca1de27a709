-- The beginning of a descent and what it gives, as the code holds them. Assumes nothing.
use Rattle.std.specs.Prelude.{ℕ}
use Rattle.model.specs.Layout.{Layout}
use Rattle.model.specs.Descent.{Descent}
use Rattle.run_step.specs.declared.DescentState.{DescentState}
use Rattle.run_descent.specs.declared.Ended.{Ended}

-- the beginning, by the sum of the given layout: nothing counted, the first place
abbrev pub starting_at : ℕ → DescentState
starting_at sum = record { sum = sum; quiet = 0; made = 0; moves = 0; next = 0 }

-- what a descent gives, with the layout at its end
abbrev pub descent_of : Ended → Layout → Descent
descent_of e v = record { end = e.end; layout = v; sum = e.sum; made = e.made; moves = e.moves }
