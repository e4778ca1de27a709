-- The causes of a call on a layout with what the call's own tests found wrong, in document 01's order ('When a call says no').
-- Assumes nothing.
use Rattle.std.specs.Prelude.{Bool, ◌||◌, List, [], ◌∷◌, ℕ}
use Rattle.model.specs.Refusal.{Cause, cause, wrong_length, out_of_range, no_such_piece}
use Rattle.model.specs.Lent.{Lent, job_of}
use Rattle.model.specs.Calls.{some_turn_wrong, some_weight_wrong, job_cause, layout_length, weights_length, outside_cause}
use Rattle.causes.specs.declared.Wrong.{Wrong}

-- those of the placements: 9, also for a piece that the call names, and 10
abbrev pub place_causes : Lent → List (List ℕ) → Bool → List Cause
place_causes l es piece = cause no_such_piece (some_turn_wrong (job_of l) es || piece) ∷ outside_cause l es ∷ []

-- all of them: 8, 7, 2, 9, 10
abbrev pub call_causes : Lent → List (List ℕ) → Wrong → List Cause
call_causes l es wrong =
    job_cause l ∷ layout_length l es ∷ cause wrong_length wrong.length ∷ cause out_of_range wrong.number ∷ place_causes l es wrong.piece

-- those of a call on weights too
abbrev pub weighted_causes : Lent → List (List ℕ) → List ℕ → Bool → Bool → List Cause
weighted_causes l es ws number piece =
    job_cause l ∷ layout_length l es ∷ weights_length l ws ∷ cause out_of_range (some_weight_wrong ws || number) ∷ place_causes l es piece
