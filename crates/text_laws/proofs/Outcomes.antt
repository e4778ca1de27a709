-- Document 01, 'When a call says no': where no cause is there the value is given, and where a value is given every step before it
-- went through. Assumes nothing.
use Rattle.std.specs.Prelude.{Ok}
use Rattle.list_laws.proofs.Kit.{◌≡◌, refl, Bool, false, true, ◌⊎◌, inl, inr, List, [], ◌∷◌, ◌+◌, ℕ, arith, length}
use Rattle.model.specs.Refusal.{Outcome, refused, given, Cause, unless, refusal_of}
use Rattle.model.specs.Text.{Reading, wrong, got, onward, or_else, formed, and_then, stands_at, after}
use Rattle.model.specs.Answers.{number_answer}
use Rattle.model.specs.declared.Refusal.{Refusal}
use Rattle.text_laws.specs.Outcomes.{NoCause, Unless}

-- then the value is given
pub unless_given : {A : Type 0} (cs : List Cause) (a : A) → NoCause cs → unless cs a ≡ given a
unfolding unless
unless_given [] a h = refl
unless_given (c ∷ cs) a h = rw (h.0, unless) (unless_given cs a h.1)

-- a refusal is no value
pub refused_given : {A : Type 0} {r : Refusal} {a : A} → refused r ≡ given a → ⊥
refused_given {A} {r} {a} e = let z : ◌≡◌ {A = ℕ} 0 1 = cc in omega arith

-- a number that is answered is given
pub number_given : (o : Outcome ℕ) (n : ℕ) → Ok n ≡ number_answer o → o ≡ given n
number_given (refused r) n e = let z : ◌≡◌ {A = ℕ} 0 1 = cc in absurd (omega arith)
number_given (given k) n e = cc

-- the first cause is not there
given_step : {A : Type 0} (c : Cause) (cs : List Cause) (a b : A) (t : Bool) → c.there ≡ t → (unless cs a ≡ given b → Unless cs a b)
    → elim t as (λ _. Outcome A) [ true ↦ refused (refusal_of c) | false ↦ unless cs a ] ≡ given b → Unless (c ∷ cs) a b
given_step c cs a b true h later e = absurd (refused_given e)
given_step c cs a b false h later e = let u : Unless cs a b = later e in record { none = (h, u.none); same = u.same }

-- a value that is given meets no cause
pub given_unless : {A : Type 0} (cs : List Cause) (a b : A) → unless cs a ≡ given b → Unless cs a b
unfolding unless
given_unless [] a b e = record { none = tt; same = cc }
given_unless (c ∷ cs) a b e = given_step c cs a b c.there refl (given_unless cs a b) e

-- what came before a value that is given
pub record CameBefore {A B : Type 0} (o : Outcome A) (more : A → Outcome B) (b : B) : Type 0 where
  pub value : A
  pub gives : o ≡ given value
  pub goes : more value ≡ given b

-- a call that gives a value went on from a value
pub given_before : {A B : Type 0} (o : Outcome A) (more : A → Outcome B) (b : B) → and_then o more ≡ given b → CameBefore o more b
given_before (refused r) more b e = absurd (refused_given e)
given_before (given a) more b e = record { value = a; gives = refl; goes = e }

-- what was read before a value that is given
pub record Formed {A B : Type 0} (r : Reading A) (more : A → ℕ → Outcome B) (b : B) : Type 0 where
  pub value : A
  pub next : ℕ
  pub reads : r ≡ got value next
  pub goes : more value next ≡ given b

-- a call that gives a value read a line of the right form
pub given_formed : {A B : Type 0} (line : ℕ) (r : Reading A) (more : A → ℕ → Outcome B) (b : B) → formed line r more ≡ given b → Formed r more b
given_formed line wrong more b e = absurd (refused_given e)
given_formed line (got a p) more b e = record { value = a; next = p; reads = refl; goes = e }

-- wrong form is nothing read
pub wrong_got : {A : Type 0} {a : A} {p : ℕ} → wrong ≡ got a p → ⊥
wrong_got {A} {a} {p} e = let z : ◌≡◌ {A = ℕ} 0 1 = cc in omega arith

-- what one of two readings gives, the first or the second gives
pub got_either : {A : Type 0} (r s : Reading A) (a : A) (p : ℕ) → or_else r s ≡ got a p → (r ≡ got a p) ⊎ (s ≡ got a p)
got_either wrong s a p e = inr e
got_either (got b q) s a p e = inl e

-- what was read before something that is read
pub record Onward {A B : Type 0} (r : Reading A) (more : A → ℕ → Reading B) (b : B) (q : ℕ) : Type 0 where
  pub value : A
  pub next : ℕ
  pub reads : r ≡ got value next
  pub goes : more value next ≡ got b q

-- a reading that gives something went on from something
pub got_onward : {A B : Type 0} (r : Reading A) (more : A → ℕ → Reading B) (b : B) (q : ℕ) → onward r more ≡ got b q → Onward r more b q
got_onward wrong more b q e = absurd (wrong_got e)
got_onward (got a p) more b q e = record { value = a; next = p; reads = refl; goes = e }

-- the word is there
after_step : {A : Type 0} (m : Reading A) (a : A) (q : ℕ) (t : Bool)
    → elim t as (λ _. Reading A) [ true ↦ m | false ↦ wrong ] ≡ got a q → m ≡ got a q
after_step m a q true e = e
after_step m a q false e = absurd (wrong_got e)

-- what is read after a word
pub got_after : {A : Type 0} (word text : List ℕ) (p : ℕ) (more : ℕ → Reading A) (a : A) (q : ℕ) → after word text p more ≡ got a q
    → more (p + length word) ≡ got a q
got_after word text p more a q e = after_step (more (p + length word)) a q (stands_at word text p) e
