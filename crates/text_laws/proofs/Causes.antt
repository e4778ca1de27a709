-- Document 01, 'When a call says no': the first cause that is there refuses. What a list of causes comes to by itself, in front of others and
-- behind others, and which lists come to the same. Assumes nothing.
use Rattle.std.specs.Prelude.{Result, Ok, Err}
use Rattle.list_laws.proofs.Kit.{◌∙◌, ◌≡◌, ap, refl, sym, Bool, ◌||◌, false, true, List, [], ◌++◌, ◌∷◌, append-nil, ℕ, arith}
use Rattle.model.specs.Refusal.{Outcome, refused, given, Cause, cause, unless, plain_refusal, refusal_of}
use Rattle.model.specs.Answers.{done_answer, outcome_of, first_cause}
use Rattle.model.specs.declared.Refusal.{Refusal}
use Rattle.text_laws.specs.Outcomes.{NoCause}
use Rattle.text_laws.proofs.Outcomes.{given_unless, unless_given}

-- ── one cause after the other ──

-- a cause that is there refuses, whatever the others are and the call would give
pub here_refused : {A : Type 0} (n : ℕ) (b : Bool) (cs : List Cause) (a : A) → b ≡ true → unless (cause n b ∷ cs) a ≡ refused (plain_refusal n)
unfolding unless
here_refused n b cs a e = rw (e, unless)

-- so it is the call's answer
pub there : (n : ℕ) (b : Bool) (cs : List Cause) → b ≡ true → Err (plain_refusal n) ≡ first_cause (cause n b ∷ cs)
there n b cs e = sym (ap done_answer (here_refused n b cs tt e))

-- one that is not there leaves it to the others
pub not_there : {A : Type 0} (n : ℕ) (b : Bool) (cs : List Cause) (a : A) → b ≡ false → unless (cause n b ∷ cs) a ≡ unless cs a
unfolding unless
not_there n b cs a e = rw (e, unless)

-- a call that goes on behind such a cause
pub next : {r : Result (Unit {0}) Refusal} (n : ℕ) (b : Bool) (cs : List Cause) → b ≡ false → r ≡ first_cause cs → r ≡ first_cause (cause n b ∷ cs)
next n b cs e h = h ∙ sym (ap done_answer (not_there n b cs tt e))

-- where none is left, the call is done
pub no_more : Ok tt ≡ first_cause []
unfolding unless
no_more = refl

-- ── what an answer tells ──

-- the outcome of causes that pass
passed_given : (o : Outcome (Unit {0})) → Ok tt ≡ done_answer o → o ≡ given tt
passed_given (refused r) e = let z : ◌≡◌ {A = ℕ} 0 1 = cc in absurd (omega arith)
passed_given (given tt) e = refl

-- the outcome of causes that refuse
refused_refused : (o : Outcome (Unit {0})) (r : Refusal) → Err r ≡ done_answer o → o ≡ refused r
refused_refused (refused s) r e = cc
refused_refused (given tt) r e = let z : ◌≡◌ {A = ℕ} 0 1 = cc in absurd (omega arith)

-- none of the causes is there
pub passed_none : (cs : List Cause) → Ok tt ≡ first_cause cs → NoCause cs
passed_none cs e = (given_unless cs tt tt (passed_given _ e)).none

-- and the other way
pub none_passed : (cs : List Cause) → NoCause cs → Ok tt ≡ first_cause cs
none_passed cs h = sym (ap done_answer (unless_given cs tt h))

-- ── causes in front of others ──

-- where those in front pass, the others decide
pub none_then : {A : Type 0} (cs ds : List Cause) (a : A) → NoCause cs → unless (cs ++ ds) a ≡ unless ds a
unfolding unless
none_then [] ds a h = refl
none_then (c ∷ cs) ds a h = rw (h.0, unless) (none_then cs ds a h.1)

-- by the first cause
refused_at : {A : Type 0} (c : Cause) (cs ds : List Cause) (a : A) (r : Refusal) → (outcome_of cs ≡ refused r → unless (cs ++ ds) a ≡ refused r)
    → (b : Bool) → ◌≡◌ {A = Outcome (Unit {0})} (elim b as (λ _. Outcome (Unit {0})) [ true ↦ refused (refusal_of c) | false ↦ outcome_of cs ]) (refused r)
    → ◌≡◌ {A = Outcome A} (elim b as (λ _. Outcome A) [ true ↦ refused (refusal_of c) | false ↦ unless (cs ++ ds) a ]) (refused r)
refused_at c cs ds a r later true e = cc
refused_at c cs ds a r later false e = later e

refused_by_lem : {A : Type 0} (cs ds : List Cause) (a : A) (r : Refusal) → outcome_of cs ≡ refused r → unless (cs ++ ds) a ≡ refused r
unfolding unless
refused_by_lem [] ds a r e = let z : ◌≡◌ {A = ℕ} 0 1 = cc in absurd (omega arith)
refused_by_lem (c ∷ cs) ds a r e = refused_at c cs ds a r (refused_by_lem cs ds a r) c.there e

-- what refuses alone refuses in front of others
pub refused_then : {A : Type 0} (cs ds : List Cause) (a : A) (r : Refusal) → Err r ≡ first_cause cs → unless (cs ++ ds) a ≡ refused r
refused_then cs ds a r e = refused_by_lem cs ds a r (refused_refused _ r e)

-- what refuses alone refuses whatever the call would give
pub refused_alone : {A : Type 0} (cs : List Cause) (a : A) (r : Refusal) → Err r ≡ first_cause cs → unless cs a ≡ refused r
refused_alone cs a r e = rw append-nil at (refused_then cs [] a r e)

-- ── lists that come to the same ──

-- a cause for one of two reasons is a cause for each in a row
pub either_cause : {A : Type 0} (n : ℕ) (b d : Bool) (cs : List Cause) (a : A) → unless (cause n (b || d) ∷ cs) a ≡ unless (cause n b ∷ cause n d ∷ cs) a
unfolding unless
either_cause n true d cs a = refl
either_cause n false d cs a = refl

-- behind one cause
pub behind_one : {A : Type 0} (c : Cause) (cs ds : List Cause) (a : A) → unless cs a ≡ unless ds a → unless (c ∷ cs) a ≡ unless (c ∷ ds) a
unfolding unless
behind_one {A = A} c cs ds a e = ap (λ (o : Outcome A). elim c.there as (λ _. Outcome A) [ true ↦ refused (refusal_of c) | false ↦ o ]) e

-- behind several
pub behind : {A : Type 0} (front cs ds : List Cause) (a : A) → unless cs a ≡ unless ds a → unless (front ++ cs) a ≡ unless (front ++ ds) a
behind [] cs ds a e = e
behind (c ∷ front) cs ds a e = behind_one c (front ++ cs) (front ++ ds) a (behind front cs ds a e)
