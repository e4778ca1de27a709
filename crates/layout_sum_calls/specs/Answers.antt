-- What the check says of the first pair that conflicts. Assumes nothing.
use Rattle.std.proofs.Math.Option as maybe
use Rattle.std.specs.Prelude.{ℕ, Option, Some, None, Result, Ok, Err}
use Rattle.model.specs.Layout.{Pair}
use Rattle.model.specs.Refusal.{pieces_conflict}
use Rattle.model.specs.declared.Refusal.{Refusal}

-- a pair that conflicts, or none
abbrev pub conflicting_answer : maybe.Option Pair → Option (ℕ × ℕ)
conflicting_answer maybe.none = None
conflicting_answer (maybe.some p) = Some (p.first, p.second)

-- a check by the pair that conflicts
abbrev pub conflict_answer : Option (ℕ × ℕ) → Result (Unit {0}) Refusal
conflict_answer (Some p) = Err (record { number = pieces_conflict; first = p.0; second = p.1 })
conflict_answer None = Ok tt
