-- The answer of the test for a conflict, by the model's outcome: a refusal keeps its number and places. Assumes nothing.
use Rattle.model.specs.declared.Refusal.{Refusal}
use Rattle.std.specs.Prelude.{Bool, Result, Ok, Err}
use Rattle.model.specs.Refusal.{Outcome, refused, given}

-- whether two pieces conflict
abbrev pub share_answer : Outcome Bool → Result Bool Refusal
share_answer (refused r) = Err r
share_answer (given b) = Ok b
