-- The answers of this crate's calls, by the model's outcomes: a refusal keeps its number and places. Assumes nothing.
use Rattle.model.specs.declared.Refusal.{Refusal}
use Rattle.std.specs.Prelude.{List, [], ◌∷◌, ℕ, Result, Ok, Err}
use Rattle.model.specs.Layout.{conflicting_pair}
use Rattle.model.specs.Lent.{Lent, job_of}
use Rattle.model.specs.Buffer.{layout_of}
use Rattle.model.specs.Refusal.{Outcome, refused, given, unless}
use Rattle.model.specs.Cut.{cut_lines, step_at, step_in}
use Rattle.model.specs.Calls.{conflict_cause}
use Rattle.model.specs.declared.CutStep.{CutStep}

-- a step of the cut list
abbrev pub step_answer : Outcome CutStep → Result CutStep Refusal
step_answer (refused r) = Err r
step_answer (given s) = Ok s

-- a step of a layout of which all is checked but conflicts: 12, or the step
abbrev pub shared_step : Lent → List (List ℕ) → ℕ → ℕ → Outcome CutStep
shared_step l es pitch k =
    unless (conflict_cause (conflicting_pair (job_of l) (layout_of es)) ∷ []) (step_in pitch (step_at (cut_lines (job_of l) (layout_of es)) k))
