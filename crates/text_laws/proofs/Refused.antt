-- Document 01, 'When a call says no': what a refusal goes back to. A step that refuses had a cause, the first that is there; a line that
-- refuses is of wrong form or went on to a step that refuses. Assumes nothing.
use Rattle.list_laws.proofs.Kit.{◌≡◌, ap, refl, sym, Bool, false, true, ◌⊎◌, inl, inr, List, [], ◌∷◌, ℕ, eqb, eqb-true}
use Rattle.model.specs.Refusal.{Outcome, refused, given, Cause, unless, refusal_of, wrong_form}
use Rattle.model.specs.Text.{Reading, wrong, got, formed, and_then}
use Rattle.model.specs.declared.Refusal.{Refusal}
use Rattle.text_laws.proofs.Outcomes.{refused_given}

-- the refusal is that of the first cause that is there
abbrev pub Refuses : List Cause → Refusal → Type 0
Refuses [] r = ⊥
Refuses (c ∷ cs) r = ((c.there ≡ true) × (refusal_of c ≡ r)) ⊎ ((c.there ≡ false) × Refuses cs r)

-- the first cause is there, or a later one
refuses_step : {A : Type 0} (c : Cause) (cs : List Cause) (a : A) (r : Refusal) (t : Bool) → c.there ≡ t
    → (unless cs a ≡ refused r → Refuses cs r)
    → ◌≡◌ {A = Outcome A} (elim t as (λ _. Outcome A) [ true ↦ refused (refusal_of c) | false ↦ unless cs a ]) (refused r)
    → Refuses (c ∷ cs) r
refuses_step c cs a r true h later e = inl (h, cc)
refuses_step c cs a r false h later e = inr (h, later e)

-- a refusal where causes were looked at
pub refused_unless : {A : Type 0} (cs : List Cause) (a : A) (r : Refusal) → unless cs a ≡ refused r → Refuses cs r
unfolding unless
refused_unless [] a r e = refused_given (sym e)
refused_unless (c ∷ cs) a r e = refuses_step c cs a r c.there refl (refused_unless cs a r) e

-- and the first cause that is there refuses
pub unless_refused : {A : Type 0} (cs : List Cause) (a : A) (r : Refusal) → Refuses cs r → unless cs a ≡ refused r
unfolding unless
unless_refused [] a r h = absurd h
unless_refused (c ∷ cs) a r (inl h) = rw (h.0, unless) (ap (λ (q : Refusal). refused q) h.1)
unless_refused (c ∷ cs) a r (inr h) = rw (h.0, unless) (unless_refused cs a r h.1)

-- a value after which the call refuses
pub record ThenRefused {A B : Type 0} (o : Outcome A) (more : A → Outcome B) (r : Refusal) : Type 0 where
  pub value : A
  pub gives : o ≡ given value
  pub goes : more value ≡ refused r

-- a call that refuses did so at once, or went on from a value
pub refused_before : {A B : Type 0} (o : Outcome A) (more : A → Outcome B) (r : Refusal) → and_then o more ≡ refused r
    → (o ≡ refused r) ⊎ ThenRefused o more r
refused_before (refused q) more r e = inl (let z : q ≡ r = cc in rw z)
refused_before (given a) more r e = inr (record { value = a; gives = refl; goes = e })

-- the refusal of a line of wrong form
abbrev pub form_refusal : ℕ → Refusal
form_refusal line = record { number = wrong_form; first = line; second = 0 }

-- a line after which the call refuses
pub record ReadRefused {A B : Type 0} (rd : Reading A) (more : A → ℕ → Outcome B) (r : Refusal) : Type 0 where
  pub value : A
  pub next : ℕ
  pub reads : rd ≡ got value next
  pub goes : more value next ≡ refused r

-- a line that refuses is of wrong form, or the call went on from what it says
pub refused_formed : {A B : Type 0} (line : ℕ) (rd : Reading A) (more : A → ℕ → Outcome B) (r : Refusal) → formed line rd more ≡ refused r
    → ((rd ≡ wrong) × (form_refusal line ≡ r)) ⊎ ReadRefused rd more r
refused_formed line wrong more r e = inl (refl, cc)
refused_formed line (got a p) more r e = inr (record { value = a; next = p; reads = refl; goes = e })

-- ── causes by number ──

-- the first claim where the test passes, else the second
abbrev pub chosen : Bool → Type 0 → Type 0 → Type 0
chosen true A B = A
chosen false A B = B

-- the test passes or fails
choose_step : {A B C : Type 0} (n k : ℕ) (t : Bool) → eqb n k ≡ t → (n ≡ k → A → C) → (B → C) → chosen t A B → C
choose_step n k true h here later x = here (eqb-true n k h) x
choose_step n k false h here later x = later x

-- a claim for the number k, else another claim
pub choose : {A B C : Type 0} (n k : ℕ) → (n ≡ k → A → C) → (B → C) → chosen (eqb n k) A B → C
choose n k here later x = choose_step n k (eqb n k) refl here later x
