-- What the check says. Assumes nothing.
use Rattle.list_laws.proofs.Kit.{◌≡◌, refl, Option, none, some, [], ◌∷◌}
use Rattle.model.specs.Answers.{done_answer}
use Rattle.model.specs.Layout.{Pair}
use Rattle.model.specs.Refusal.{unless}
use Rattle.model.specs.Calls.{conflict_cause}
use Rattle.layout_sum_calls.specs.Answers.{conflicting_answer, conflict_answer}

-- what the check says of the first pair that conflicts
pub conflict_check : (o : Option Pair) → conflict_answer (conflicting_answer o) ≡ done_answer (unless (conflict_cause o ∷ []) (tt {0}))
unfolding unless
conflict_check none = refl
conflict_check (some p) = refl
