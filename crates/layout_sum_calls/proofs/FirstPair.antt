-- The first pair that conflicts, found row by row. Assumes nothing.
use Rattle.list_laws.proofs.Kit.{◌∙◌, ◌≡◌, ap, sym, Bool, false, true, Option, none, some, List, ◌++◌, ◌+◌, ◌-◌, ◌<◌, ◌≤◌, suc, ℕ, add-one, arith, length}
use Rattle.model.specs.Layout.{Pair, pair_of, pairs_with, pairs_from, pair_conflicts, first_pair, conflicting_pair}
use Rattle.model.specs.Lent.{Lent, job_of}
use Rattle.model.specs.Buffer.{layout_of}
use Rattle.layout_sum_calls.specs.Conflicting.{row_before, RowFirst}

module _ (test : Pair → Bool) (n i : ℕ) (rest : List Pair) where
  -- the first of the pairs that are left
  first_left : (k left : ℕ) (b : Bool) → test (pair_of i k) ≡ b
      → first_pair test (pairs_with i k (suc left) ++ rest)
      ≡ elim b as (λ _. Option Pair) [ true ↦ some (pair_of i k) | false ↦ first_pair test (pairs_with i (suc k) left ++ rest) ]
  unfolding pairs_with first_pair
  first_left k left b e = ap (λ b. elim b as (λ _. Option Pair) [ true ↦ some (pair_of i k) | false ↦ first_pair test (pairs_with i (suc k) left ++ rest) ]) e

  one_left : (k : ℕ) → k < n → n - k ≡ suc (n - suc k)
  one_left k h = omega arith

  -- it passes
  pub row_found : (k : ℕ) → k < n → test (pair_of i k) ≡ true → first_pair test (pairs_with i k (n - k) ++ rest) ≡ some (pair_of i k)
  row_found k h e = ap (λ m. first_pair test (pairs_with i k m ++ rest)) (one_left k h) ∙ first_left k (n - suc k) true e

  -- it does not
  pub row_passed : (k : ℕ) → k < n → test (pair_of i k) ≡ false
      → first_pair test (pairs_with i k (n - k) ++ rest) ≡ first_pair test (pairs_with i (k + 1) (n - (k + 1)) ++ rest)
  row_passed k h e =
      ap (λ m. first_pair test (pairs_with i k m ++ rest)) (one_left k h) ∙ first_left k (n - suc k) false e
      ∙ sym (ap (λ m. first_pair test (pairs_with i m (n - m) ++ rest)) (add-one k))

  -- none is left
  pub row_done : (k : ℕ) → n ≤ k → first_pair test (pairs_with i k (n - k) ++ rest) ≡ first_pair test rest
  unfolding pairs_with
  row_done k h = let z : n - k ≡ 0 = omega arith in rw z

-- the loop along a row: what is left has the row's first pair that passes
abbrev pub LeftInRow : (Pair → Bool) → ℕ → ℕ → ℕ → Type 0
LeftInRow test n i k = (rest : List Pair) → first_pair test (row_before n i rest) ≡ first_pair test (pairs_with i k (n - k) ++ rest)

-- before the first
pub row_begin : (test : Pair → Bool) (n i : ℕ) → LeftInRow test n i (i + 1)
row_begin test n i rest = sym (ap (λ m. first_pair test (pairs_with i m (n - m) ++ rest)) (add-one i))

-- found
pub row_first : (test : Pair → Bool) (n i k : ℕ) → k < n → test (pair_of i k) ≡ true → LeftInRow test n i k → RowFirst test n i k
row_first test n i k h e l =
    record { found = λ b rest. l rest ∙ row_found test n i rest k h e; none = λ b rest. absurd (omega arith) }

-- passed
pub row_next : (test : Pair → Bool) (n i k : ℕ) → k < n → test (pair_of i k) ≡ false → LeftInRow test n i k → LeftInRow test n i (k + 1)
row_next test n i k h e l rest = l rest ∙ row_passed test n i rest k h e

-- none found
pub row_none : (test : Pair → Bool) (n i k : ℕ) → n ≤ k → LeftInRow test n i k → RowFirst test n i k
row_none test n i k h l = record { found = λ b rest. absurd (omega arith); none = λ b rest. l rest ∙ row_done test n i rest k h }

-- all rows
pub rows_begin : (l : Lent) (layout : List (List ℕ)) → l.size.count ≡ length layout
    → conflicting_pair (job_of l) (layout_of layout) ≡ first_pair (pair_conflicts (job_of l) (layout_of layout)) (pairs_from 0 (length layout - 0))
unfolding conflicting_pair job_of
rows_begin l layout whole =
    let e : l.size.count ≡ length layout - 0 = omega arith in
    ap (λ n. first_pair (pair_conflicts (job_of l) (layout_of layout)) (pairs_from 0 n)) e

-- the rows from i on: the first row, and those after it
pub rows_left : (test : Pair → Bool) (n i : ℕ) → i < n
    → first_pair test (pairs_from i (n - i)) ≡ first_pair test (row_before n i (pairs_from (i + 1) (n - (i + 1))))
unfolding pairs_from
rows_left test n i h =
    let e : n - i ≡ suc (n - suc i) = omega arith in
    ap (λ m. first_pair test (pairs_from i m)) e
    ∙ sym (ap (λ m. first_pair test (row_before n i (pairs_from m (n - m)))) (add-one i))

-- no row is left
pub rows_done : (test : Pair → Bool) (n i : ℕ) → n ≤ i → first_pair test (pairs_from i (n - i)) ≡ none
unfolding pairs_from first_pair
rows_done test n i h = let z : n - i ≡ 0 = omega arith in rw z
