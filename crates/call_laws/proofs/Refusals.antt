-- Document 01, 'When a call says no': "No number comes without its cause, and the first cause in the order below wins", and a refusal
-- "writes nothing". The outcome of every call but the two that read a text is `unless` of its causes in order, so that what is shown
-- here holds of each of them (Clauses says it call by call); the two readers refuse a line of wrong form with 1 and take the line's
-- other causes so. Assumes nothing.
use Rattle.list_laws.proofs.Kit.{◌∙◌, ◌≡◌, ap, refl, subst, Bool, false, true, ◌↔◌, ◌≢◌, List, [], ◌++◌, ◌∷◌, ℕ, arith}
use Rattle.model.specs.Refusal.{Outcome, refused, given, Cause, unless, refusal_of}
use Rattle.model.specs.Calls.{leaving}
use Rattle.model.specs.declared.Refusal.{Refusal}
use Rattle.text_laws.specs.Outcomes.{NoCause, Unless}
use Rattle.text_laws.proofs.Outcomes.{unless_given, given_unless}
use Rattle.call_laws.specs.Clause.{FirstCause}
pub use Rattle.call_laws.specs.Clause.{FirstCause}

-- a value is no refusal
given_refused : {A : Type 0} {r : Refusal} {a : A} → given a ≡ refused r → ⊥
given_refused {A} {r} {a} e = let z : ◌≡◌ {A = ℕ} 0 1 = cc in omega arith

-- by whether the first cause of the list is there
cause_step : {A : Type 0} (c : Cause) (cs : List Cause) (a : A) (r : Refusal) (t : Bool) → c.there ≡ t
    → (unless cs a ≡ refused r → FirstCause cs r)
    → ◌≡◌ {A = Outcome A} (elim t as (λ _. Outcome A) [ true ↦ refused (refusal_of c) | false ↦ unless cs a ]) (refused r)
    → FirstCause (c ∷ cs) r
cause_step c cs a r true h more e =
    let none : NoCause [] = tt in
    record { before = []; first = c; later = cs; listed = refl; none_before = none; there = h; tells = cc }
cause_step c cs a r false h more e =
    let f : FirstCause cs r = more e in
    let none : NoCause (c ∷ f.before) = (h, f.none_before) in
    record {
      before = c ∷ f.before;
      first = f.first;
      later = f.later;
      listed = ap (λ (l : List Cause). c ∷ l) f.listed;
      none_before = none;
      there = f.there;
      tells = f.tells;
    }

-- a refusal has its cause, and none before it in the order is there
pub refused_unless : {A : Type 0} (cs : List Cause) (a : A) (r : Refusal) → unless cs a ≡ refused r → FirstCause cs r
unfolding unless
refused_unless [] a r e = absurd (given_refused e)
refused_unless (c ∷ cs) a r e = cause_step c cs a r c.there refl (refused_unless cs a r) e

-- a cause that is there refuses, where none before it is there
cause_refuses : {A : Type 0} (before : List Cause) (c : Cause) (later : List Cause) (a : A) → NoCause before → c.there ≡ true
    → unless (before ++ (c ∷ later)) a ≡ refused (refusal_of c)
unfolding unless
cause_refuses [] c later a h e = rw e
cause_refuses (b ∷ before) c later a h e = rw (h.0, unless) (cause_refuses before c later a h.1 e)

-- a call refuses exactly by the first cause that is there
pub refused_exactly : {A : Type 0} (cs : List Cause) (a : A) (r : Refusal) → (unless cs a ≡ refused r) ↔ FirstCause cs r
refused_exactly cs a r = (
  refused_unless cs a r,
  λ f. rw f.listed (cause_refuses f.before f.first f.later a f.none_before f.there ∙ ap refused f.tells),
)

-- a call gives its value exactly where no cause is there
pub given_exactly : {A : Type 0} (cs : List Cause) (a b : A) → (unless cs a ≡ given b) ↔ Unless cs a b
given_exactly cs a b = (given_unless cs a b, λ u. unless_given cs a u.none ∙ ap given u.same)

-- a refusal leaves in lent memory what was there
pub refused_leaves : {A B : Type 0} (content : A → B) (before : B) (o : Outcome A) (r : Refusal) → o ≡ refused r
    → leaving content before o ≡ before
refused_leaves content before o r e = rw e

-- none of the causes has the number 0
abbrev pub Numbered : List Cause → Type 0
Numbered [] = Unit {0}
Numbered (c ∷ cs) = (c.number ≢ 0) × Numbered cs

-- by whether the first cause of the list is there
numbered_step : {A : Type 0} (c : Cause) (cs : List Cause) (a : A) (r : Refusal) (t : Bool) → c.number ≢ 0
    → (unless cs a ≡ refused r → r.number ≢ 0)
    → ◌≡◌ {A = Outcome A} (elim t as (λ _. Outcome A) [ true ↦ refused (refusal_of c) | false ↦ unless cs a ]) (refused r)
    → r.number ≢ 0
numbered_step c cs a r true n more e =
    let same : refusal_of c ≡ r = cc in
    subst (λ (q : Refusal). q.number ≢ 0) same n
numbered_step c cs a r false n more e = more e

-- then a refusal has not the number 0
pub refused_numbered : {A : Type 0} (cs : List Cause) (a : A) (r : Refusal) → Numbered cs → unless cs a ≡ refused r → r.number ≢ 0
unfolding unless
refused_numbered [] a r n e = absurd (given_refused e)
refused_numbered (c ∷ cs) a r n e = numbered_step c cs a r c.there n.0 (refused_numbered cs a r n.1) e

-- ── causes that are not there ──
