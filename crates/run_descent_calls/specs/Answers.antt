-- The answer of the descent by the model's outcome. Assumes nothing.
use Rattle.std.specs.Prelude.{Result, Ok, Err}
use Rattle.model.specs.declared.Refusal.{Refusal}
use Rattle.model.specs.Descent.{Descent}
use Rattle.model.specs.Refusal.{Outcome, refused, given}
use Rattle.run_descent.specs.declared.Ended.{Ended}

-- the end of a descent, its sum, trials made and moves; the layout stands in the layout buffer
abbrev pub ended_of : Descent → Ended
ended_of d = record { end = d.end; sum = d.sum; made = d.made; moves = d.moves }

-- a descent, or its refusal
abbrev pub descent_answer : Outcome Descent → Result Ended Refusal
descent_answer (refused r) = Err r
descent_answer (given d) = Ok (ended_of d)
