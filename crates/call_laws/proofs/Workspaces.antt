-- What is left of a workspace, by what a call gives. Assumes nothing.
use Rattle.list_laws.proofs.Kit.{◌≡◌, refl, subst, sym, List, ℕ, length}
use Rattle.model.specs.Refusal.{Outcome, refused, given}
use Rattle.model.specs.declared.Refusal.{Refusal}
use Rattle.call_laws.specs.Workspaces.{LeftFree}

-- a call that is refused leaves it as it was
pub left_refused : {A : Type 0} (o : Outcome A) (r : Refusal) (ws : List ℕ) → o ≡ refused r → LeftFree o ws ws
left_refused o r ws e = subst (λ x. LeftFree x ws ws) (sym e) refl

-- one that is not leaves it as long as it was
pub left_given : {A : Type 0} (o : Outcome A) (a : A) (old new : List ℕ) → o ≡ given a → length new ≡ length old → LeftFree o old new
left_given o a old new e long = subst (λ x. LeftFree x old new) (sym e) long
