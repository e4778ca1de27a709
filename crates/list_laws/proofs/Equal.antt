-- Document 01, 'When a call says no', refusal 8 of stores, stretches and strips: the two tests of lent lists, of numbers and of
-- entries, pass exactly where the lists are equal. Assumes nothing.
use Rattle.list_laws.proofs.Kit.{◌≡◌, ap₂, refl, false≢true, true, ◌↔◌, List, [], ◌∷◌, ℕ, eqb, eq-eqb, eqb-true}
use Rattle.model.specs.Buffer.{same_numbers, same_entries}
use Rattle.list_laws.proofs.Tests.{and_left, and_right, and_both}

-- lists of numbers that pass the test are equal
pub same_numbers_lem : (xs ys : List ℕ) → same_numbers xs ys ≡ true → xs ≡ ys
unfolding same_numbers
same_numbers_lem [] [] e = refl
same_numbers_lem [] (b ∷ ys) e = absurd (false≢true e)
same_numbers_lem (a ∷ xs) [] e = absurd (false≢true e)
same_numbers_lem (a ∷ xs) (b ∷ ys) e =
    ap₂ (λ (c : ℕ) (l : List ℕ). c ∷ l) (eqb-true a b (and_left _ _ e)) (same_numbers_lem xs ys (and_right (eqb a b) _ e))

-- a list of numbers passes the test with itself
numbers_themselves : (xs : List ℕ) → same_numbers xs xs ≡ true
unfolding same_numbers
numbers_themselves [] = refl
numbers_themselves (a ∷ xs) = and_both (eq-eqb a a refl) (numbers_themselves xs)

-- lists of entries that pass the test are equal
pub same_entries_lem : (xs ys : List (List ℕ)) → same_entries xs ys ≡ true → xs ≡ ys
unfolding same_entries
same_entries_lem [] [] e = refl
same_entries_lem [] (b ∷ ys) e = absurd (false≢true e)
same_entries_lem (a ∷ xs) [] e = absurd (false≢true e)
same_entries_lem (a ∷ xs) (b ∷ ys) e =
    ap₂ (λ (c : List ℕ) (l : List (List ℕ)). c ∷ l) (same_numbers_lem a b (and_left _ _ e))
    (same_entries_lem xs ys (and_right (same_numbers a b) _ e))

-- a list of entries passes the test with itself
entries_themselves : (xs : List (List ℕ)) → same_entries xs xs ≡ true
unfolding same_entries
entries_themselves [] = refl
entries_themselves (a ∷ xs) = and_both (numbers_themselves a) (entries_themselves xs)

-- the test of lists of numbers passes exactly equal ones
pub same_numbers_exactly : (xs ys : List ℕ) → (same_numbers xs ys ≡ true) ↔ (xs ≡ ys)
same_numbers_exactly xs ys = (same_numbers_lem xs ys, λ e. rw e (numbers_themselves ys))

-- the test of lists of entries passes exactly equal ones
pub same_entries_exactly : (xs ys : List (List ℕ)) → (same_entries xs ys ≡ true) ↔ (xs ≡ ys)
same_entries_exactly xs ys = (same_entries_lem xs ys, λ e. rw e (entries_themselves ys))
