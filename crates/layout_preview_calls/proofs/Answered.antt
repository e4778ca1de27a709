-- The answer of a preview tells the call's outcome. Assumes nothing.
use Rattle.std.specs.Prelude.{Result, Ok}
use Rattle.model.specs.declared.Refusal.{Refusal}
use Rattle.list_laws.proofs.Kit.{◌∙◌, ◌≡◌, sym, List, ℕ, arith}
use Rattle.model.specs.Lent.{Lent}
use Rattle.model.specs.Refusal.{Outcome, refused, given}
use Rattle.model.specs.Calls.{preview_call}
use Rattle.model.specs.declared.Figures.{Figures}
use Rattle.model.specs.declared.Placement.{Placement}
use Rattle.call_laws.specs.Previews.{PreviewClaims}
use Rattle.call_laws.proofs.Previews.{preview_given}
use Rattle.layout_preview_calls.specs.Answers.{preview_answer}

-- figures that are shown are given
shown_given : (o : Outcome Figures) (f : Figures) → Ok f ≡ preview_answer o → o ≡ given f
shown_given (refused r) f e = let z : ◌≡◌ {A = ℕ} 0 1 = cc in absurd (omega arith)
shown_given (given g) f e = cc

-- an answer that tells the call's outcome says what is claimed of the figures in it
pub preview_answered : (l : Lent) (es : List (List ℕ)) (ws : List ℕ) (i : ℕ) (p : Placement) {r : Result Figures Refusal}
    → r ≡ preview_answer (preview_call l es ws i p)
    → (r ≡ preview_answer (preview_call l es ws i p)) × ((f : Figures) → r ≡ Ok f → PreviewClaims l es ws i p f)
preview_answered l es ws i p {r} e = (e, λ f told. preview_given l es ws i p f (shown_given (preview_call l es ws i p) f (sym told ∙ e)))
