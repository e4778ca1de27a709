-- The two answers that most calls give (document 01, 'When a call says no': an answer that is an enum has a definition that gives each case
-- its number and values), by the outcome of the call. Assumes nothing.
use Rattle.model.specs.declared.Refusal.{Refusal}
use Rattle.std.specs.Prelude.{List, ℕ, length, Result, Ok, Err}
use Rattle.model.specs.Refusal.{Outcome, refused, given, Cause, unless}

-- a call whose value stands in lent memory, or that has none: a refusal keeps its number and places
abbrev pub done_answer : {A : Type 0} → Outcome A → Result (Unit {0}) Refusal
done_answer (refused r) = Err r
done_answer (given a) = Ok tt

-- a call that gives a number
abbrev pub number_answer : Outcome ℕ → Result ℕ Refusal
number_answer (refused r) = Err r
number_answer (given k) = Ok k

-- a call that tells how many entries or bytes it wrote
abbrev pub count_answer : {A : Type 0} → Outcome (List A) → Result ℕ Refusal
count_answer (refused r) = Err r
count_answer (given xs) = Ok (length xs)

-- what causes come to by themselves: the first that is there refuses
abbrev pub outcome_of : List Cause → Outcome (Unit {0})
outcome_of cs = unless cs tt

-- the first cause that is there, or done
abbrev pub first_cause : List Cause → Result (Unit {0}) Refusal
first_cause cs = done_answer (outcome_of cs)
