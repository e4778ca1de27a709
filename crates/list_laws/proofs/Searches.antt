-- What a loop that ends at the first failure or the first find has shown. Assumes nothing.
use Rattle.list_laws.proofs.Kit.{◌≡◌, ap, sym, Bool, false, not, true, ◌<◌, ◌≤◌, ℕ, arith}
use Rattle.model.specs.Bounded.{any_below, all_below}
use Rattle.list_laws.proofs.Bounded.{any_from, none_any, all_from}

-- no failure below an end that is not before n
pub all_passed : (n i : ℕ) (f : ℕ → Bool) → n ≤ i → ((k : ℕ) → k < i → f k ≡ true) → true ≡ all_below n f
all_passed n i f l h = sym (all_from n f (λ k m. h k (omega arith)))

-- a find below n
pub any_found : (n k : ℕ) (f : ℕ → Bool) → k < n → f k ≡ true → true ≡ any_below n f
any_found n k f l e = sym (any_from n k f l e)

-- no find below an end that is not before n
pub any_missed : (n i : ℕ) (f : ℕ → Bool) → n ≤ i → ((k : ℕ) → k < i → f k ≡ false) → false ≡ any_below n f
any_missed n i f l h = sym (none_any n f (λ k m. h k (omega arith)))

-- a number below n that fails shows that some does
pub one_fails : (n i : ℕ) (f : ℕ → Bool) → i < n → f i ≡ false → true ≡ any_below n (λ k. not (f k))
one_fails n i f l e = sym (any_from n i (λ k. not (f k)) l (ap not e))

-- where each number below n passes, none fails
pub none_fails : (n i : ℕ) (f : ℕ → Bool) → n ≤ i → ((k : ℕ) → k < i → f k ≡ true) → false ≡ any_below n (λ k. not (f k))
none_fails n i f l h = sym (none_any n (λ k. not (f k)) (λ k b. ap not (h k (omega arith))))

-- where one number below n fails, not all pass
pub not_all : (n k : ℕ) (f : ℕ → Bool) → k < n → f k ≡ false → all_below n f ≡ false
not_all n k f l h = ap not (any_from n k (λ i. not (f i)) l (ap not h))
