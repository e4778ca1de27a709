-- The answer of the preview, by the model's outcome: a refusal keeps its number and places. Assumes nothing.
use Rattle.std.specs.Prelude.{Result, Ok, Err}
use Rattle.model.specs.declared.Refusal.{Refusal}
use Rattle.model.specs.Refusal.{Outcome, refused, given}
use Rattle.model.specs.declared.Figures.{Figures}

-- a preview: the figures
abbrev pub preview_answer : Outcome Figures → Result Figures Refusal
preview_answer (refused r) = Err r
preview_answer (given f) = Ok f
