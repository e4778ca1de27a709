-- Document 01, 'When a call says no', of a single call: "No number comes without its cause, and the first cause in the order below wins",
-- and a refusal "writes nothing". These are the words in which Clauses speaks of each call. Assumes nothing.
use Rattle.std.specs.Prelude.{true, List, ◌∷◌, ◌++◌, ◌↔◌, ◌⊎◌, ◌≡◌}
use Rattle.model.specs.Refusal.{Outcome, refused, given, Cause, refusal_of}
use Rattle.model.specs.declared.Refusal.{Refusal}
use Rattle.text_laws.specs.Outcomes.{NoCause, Unless}

-- the first cause of the list that is there leads to the refusal
pub record FirstCause (cs : List Cause) (r : Refusal) : Type 0 where
  pub before : List Cause
  pub first : Cause
  pub later : List Cause
  pub listed : cs ≡ before ++ (first ∷ later)
  pub none_before : NoCause before
  pub there : first.there ≡ true
  pub tells : refusal_of first ≡ r

-- what is said of a call with these causes, in their order, and this value
pub record CallClaims {A : Type 0} (causes : List Cause) (value : A) (o : Outcome A) : Type 0 where
  -- it refuses exactly by the first cause that is there
  pub refuses : (r : Refusal) → (o ≡ refused r) ↔ FirstCause causes r
  -- it gives its value exactly where no cause is there
  pub gives : (a : A) → (o ≡ given a) ↔ Unless causes value a

-- what is said of a lent buffer, before the call and after it
pub record BufferClaims {A B : Type 0} (content : A → B) (before after : B) (o : Outcome A) : Type 0 where
  -- after a refusal it holds what it held before
  pub kept : (r : Refusal) → o ≡ refused r → after ≡ before
  -- else it holds the content that goes with the value
  pub written : (a : A) → o ≡ given a → after ≡ content a

-- a call ends in a refusal or in a value
abbrev pub Answers : {A : Type 0} → Outcome A → Type 0
Answers {A} o = ((r : Refusal) × (o ≡ refused r)) ⊎ ((a : A) × (o ≡ given a))
