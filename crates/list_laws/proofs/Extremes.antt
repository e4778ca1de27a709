-- The largest or the smallest value of a function, kept while its places are passed one by one: what holds of each place passed, and that
-- one of them has the value kept. Assumes nothing.
use Rattle.list_laws.proofs.Kit.{◌∙◌, ◌≡◌, subst, sym, ◌⊎◌, inl, inr, ⊎_elim, ◌<◌, ◌≤◌, max, min, suc, zero, ℕ, eq-or-lt_of_le, le_of_suc-le-suc}
use Rattle.list_laws.proofs.Kit.{not-suc-le-zero, arith}
use Rattle.list_laws.proofs.Numbers.{below_or}

-- the larger of two numbers is one of them
pub max_one : (a b : ℕ) → (max a b ≡ a) ⊎ (max a b ≡ b)
max_one a b = ⊎_elim (λ (l : a < b). inr (omega arith)) (λ (l : b ≤ a). inl (omega arith)) (below_or a b)

-- the smaller is, too
pub min_one : (a b : ℕ) → (min a b ≡ a) ⊎ (min a b ≡ b)
min_one a b = ⊎_elim (λ (l : a < b). inl (omega arith)) (λ (l : b ≤ a). inr (omega arith)) (below_or a b)

-- what holds of a place once it is passed, and goes on holding, holds of all that are passed
pub all_passed : (P : ℕ → ℕ → Type 0) → ((n : ℕ) → P n (suc n)) → ((n i : ℕ) → P i n → P i (suc n)) → (n i : ℕ) → i < n → P i n
all_passed P first on zero i l = absurd (not-suc-le-zero l)
all_passed P first on (suc n) i l =
    ⊎_elim (λ (e : i ≡ n). subst (λ (k : ℕ). P k (suc n)) (sym e) (first n)) (λ (b : i < n). on n i (all_passed P first on n i b))
    (eq-or-lt_of_le (le_of_suc-le-suc l))

-- a place below n whose value is m
pub record Attained (f : ℕ → ℕ) (n m : ℕ) : Type 0 where
  pub place : ℕ
  pub below : place < n
  pub is : m ≡ f place

module _ (f kept : ℕ → ℕ) (first : kept 1 ≡ f 0) (on : (n : ℕ) → (kept (suc n) ≡ kept n) ⊎ (kept (suc n) ≡ f n)) where
  -- where each place passed leaves what was kept or has its value kept, one of n + 1 places has it
  attained_next : (n : ℕ) → Attained f (suc n) (kept (suc n))
  attained_next zero = record { place = 0; below = omega arith; is = first }
  attained_next (suc n) =
      ⊎_elim
      (λ (e : kept (suc (suc n)) ≡ kept (suc n)).
      let w = attained_next n in
      let b : w.place < suc n = w.below in record { place = w.place; below = omega arith; is = e ∙ w.is })
      (λ (e : kept (suc (suc n)) ≡ f (suc n)). record { place = suc n; below = omega arith; is = e }) (on (suc n))

  -- of any number of places but none
  pub attained : (n : ℕ) → 0 < n → Attained f n (kept n)
  attained zero l = absurd (not-suc-le-zero l)
  attained (suc n) l = attained_next n
