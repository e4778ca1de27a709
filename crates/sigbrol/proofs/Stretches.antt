-- A stretch is given exactly where it is not empty, so its length tells a refusal. Assumes nothing.
use Rattle.list_laws.proofs.Kit.{◌≡◌, refl, List, ℕ, length}
use Rattle.model.specs.Refusal.{Outcome, refused, given}
use Rattle.model.specs.Lent.{Lent}
use Rattle.model.specs.Calls.{Stores, leaving, stretch_call, stretch_given, stretch_number}
use Rattle.model.specs.declared.Direction.{Direction}
use Rattle.call_laws.proofs.Stores.{stretch_tells}
use Rattle.strip_calls.proofs.Outcomes.{StretchPassed, stretch_passed}
use Rattle.sigbrol.specs.Places.{stretch_start}

-- what is not empty has no number
some_number : (o : Outcome (List (List ℕ))) → (length (stretch_given o) ≡ 0 → ⊥) → stretch_number o ≡ 0
some_number (refused r) h = absurd (h refl)
some_number (given part) h = refl

-- what has a number leaves memory as it is
number_leaves : {B : Type 0} (content : List (List ℕ) → B) (before : B) (o : Outcome (List (List ℕ))) → (stretch_number o ≡ 0 → ⊥)
    → before ≡ leaving content before o
number_leaves content before (refused r) h = refl
number_leaves content before (given part) h = absurd (h refl)

module _ (l : Lent) (ts : List ℕ) (lent : Stores) (i : ℕ) (d : Direction) where
  -- a stretch that is not empty is given, and either store can be cut at the piece
  pub stretch_there : (length (stretch_given (stretch_call l ts lent i d)) ≡ 0 → ⊥) → StretchPassed l ts lent i d
  stretch_there h = stretch_passed l ts lent i d (some_number (stretch_call l ts lent i d) h)

  -- its start is what is left
  pub start_left : (before : ℕ) → StretchPassed l ts lent i d
      → stretch_start d lent i ≡ leaving (λ part. stretch_start d lent i) before (stretch_call l ts lent i d)
  start_left before p = rw p.gives

  -- an empty one is refused
  pub start_kept : (before : ℕ) → length (stretch_given (stretch_call l ts lent i d)) ≡ 0
      → before ≡ leaving (λ part. stretch_start d lent i) before (stretch_call l ts lent i d)
  start_kept before e = number_leaves (λ part. stretch_start d lent i) before (stretch_call l ts lent i d) ((stretch_tells l ts lent i d).0 e)
