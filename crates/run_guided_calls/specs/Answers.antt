-- The answer of the guided run by the model's outcome: a refusal keeps its number and places. Assumes nothing.
use Rattle.model.specs.declared.Refusal.{Refusal}
use Rattle.std.specs.Prelude.{Bool, not, ◌||◌, ℕ, ltb, Result, Ok, Err}
use Rattle.model.specs.Guided.{Guided}
use Rattle.model.specs.Refusal.{Outcome, refused, given}
use Rattle.model.specs.Lent.{up_to}
use Rattle.model.specs.Calls.{budget_bound, round_bound}
use Rattle.run_rounds.specs.declared.Tally.{Tally}
use Rattle.run_guided_calls.specs.declared.RunTotals.{RunTotals}

-- what the rounds come to
abbrev pub tally_of : RunTotals → Tally
tally_of r = record { sum = r.sum; made = r.made; moves = r.moves }

-- a guided run, whose best layout and new weights stand in the buffers
abbrev pub guided_answer : Outcome Guided → Result RunTotals Refusal
guided_answer (refused r) = Err r
guided_answer (given g) = Ok (record { sum = g.sum; made = g.made; moves = g.moves })

-- the budget or the round count is out of range
abbrev pub numbers_wrong : ℕ → ℕ → Bool
numbers_wrong count budget = ltb budget_bound budget || not (up_to round_bound count)
