-- Laws of sums below a bound: a loop that adds f 0, f 1, .. in this order has `sum_below k f` before it adds f k. Assumes nothing.
use Rattle.list_laws.proofs.Kit.{◌≡◌, ap, refl, Bool, false, true, ◌≢◌, ◌⊎◌, inl, inr, ◌*◌, ◌+◌, ◌-◌, ◌<◌, ◌≤◌, suc, zero, ℕ, add-one, add-suc}
use Rattle.list_laws.proofs.Kit.{add-zero, eq-or-lt_of_le, le_of_suc-le-suc, le_refl, suc-mul, arith}
use Rattle.model.specs.Bounded.{sum_below, one_if}

-- one more term
pub sum_step : (n : ℕ) (f : ℕ → ℕ) → sum_below (n + 1) f ≡ sum_below n f + f n
sum_step n f = rw (add-one n)

-- terms that agree below n have the same sum
pub sum_agree : (n : ℕ) (f g : ℕ → ℕ) → ((k : ℕ) → k < n → f k ≡ g k) → sum_below n f ≡ sum_below n g
sum_agree zero f g h = refl
sum_agree (suc n) f g h =
    let earlier : sum_below n f ≡ sum_below n g = sum_agree n f g (λ k l. h k (omega arith)) in
    let last : f n ≡ g n = h n (le_refl (suc n)) in
    cc

-- terms that are all 0 add up to 0
pub sum_zero : (n : ℕ) (f : ℕ → ℕ) → ((k : ℕ) → k < n → f k ≡ 0) → sum_below n f ≡ 0
sum_zero zero f h = refl
sum_zero (suc n) f h =
    let earlier : sum_below n f ≡ 0 = sum_zero n f (λ k l. h k (omega arith)) in
    let last : f n ≡ 0 = h n (le_refl (suc n)) in
    omega arith

-- the last term is the one that counts, or an earlier one is
single_step : (n i : ℕ) (f : ℕ → ℕ) → (i ≡ n) ⊎ (i < n) → ((k : ℕ) → k < suc n → k ≢ i → f k ≡ 0) → (i < n → sum_below n f ≡ f i)
    → sum_below (suc n) f ≡ f i
single_step n i f (inl e) others earlier =
    let before : sum_below n f ≡ 0 = sum_zero n f (λ k l. others k (omega arith) (omega arith)) in
    let last : f i ≡ f n = ap f e in
    omega arith
single_step n i f (inr l) others earlier =
    let before : sum_below n f ≡ f i = earlier l in
    let last : f n ≡ 0 = others n (le_refl (suc n)) (omega arith) in
    omega arith

-- where all terms but one are 0, the sum is that one
pub sum_single : (n i : ℕ) (f : ℕ → ℕ) → i < n → ((k : ℕ) → k < n → k ≢ i → f k ≡ 0) → sum_below n f ≡ f i
sum_single zero i f l others = absurd (omega arith)
sum_single (suc n) i f l others =
    single_step n i f (eq-or-lt_of_le (le_of_suc-le-suc l)) others (λ l'. sum_single n i f l' (λ k h. others k (omega arith)))

-- the first a terms and the b after them
pub sum_add : (a b : ℕ) (f : ℕ → ℕ) → sum_below (a + b) f ≡ sum_below a f + sum_below b (λ m. f (a + m))
sum_add a zero f = rw (add-zero a) (omega arith)
sum_add a (suc b) f =
    let earlier : sum_below (a + b) f ≡ sum_below a f + sum_below b (λ m. f (a + m)) = sum_add a b f in
    rw (add-suc a b) (omega arith)

-- the first term and those after it
pub sum_first : (n : ℕ) (f : ℕ → ℕ) → sum_below (suc n) f ≡ f 0 + sum_below n (λ k. f (suc k))
sum_first zero f = omega arith
sum_first (suc n) f =
    let earlier : sum_below (suc n) f ≡ f 0 + sum_below n (λ k. f (suc k)) = sum_first n f in
    omega arith

-- smaller terms have a smaller sum
pub sum_le : (n : ℕ) (f g : ℕ → ℕ) → ((k : ℕ) → k < n → f k ≤ g k) → sum_below n f ≤ sum_below n g
sum_le zero f g h = omega arith
sum_le (suc n) f g h =
    let earlier : sum_below n f ≤ sum_below n g = sum_le n f g (λ k l. h k (omega arith)) in
    let last : f n ≤ g n = h n (le_refl (suc n)) in
    omega arith

-- each term at most c: the sum at most n times c
pub sum_bound_lem : (n c : ℕ) (f : ℕ → ℕ) → ((k : ℕ) → k < n → f k ≤ c) → sum_below n f ≤ n * c
sum_bound_lem zero c f h = omega arith
sum_bound_lem (suc n) c f h =
    let earlier : sum_below n f ≤ n * c = sum_bound_lem n c f (λ k l. h k (omega arith)) in
    let last : f n ≤ c = h n (le_refl (suc n)) in
    omega (arith, suc-mul n c)

-- a sum of more terms is no smaller
pub sum_grows : (n m : ℕ) (f : ℕ → ℕ) → n ≤ m → sum_below n f ≤ sum_below m f
sum_grows n zero f h = let e : n ≡ 0 = omega arith in rw e (omega arith)
sum_grows n (suc m) f h = grown (eq-or-lt_of_le h) (sum_grows n m f)
  where
    grown : (n ≡ suc m) ⊎ (n < suc m) → (n ≤ m → sum_below n f ≤ sum_below m f) → sum_below n f ≤ sum_below (suc m) f
    grown (inl e) earlier = rw e (le_refl _)
    grown (inr l) earlier = let g = earlier (omega arith) in omega arith

-- the numbers below n: those below i, i, and those above
pub three_parts : (n i : ℕ) (f : ℕ → ℕ) → i < n → sum_below n f ≡ sum_below i f + f i + sum_below (n - suc i) (λ m. f (suc i + m))
three_parts n i f l = let e : suc i + (n - suc i) ≡ n = omega arith in rw e at (sum_add (suc i) (n - suc i) f)

-- a term is at most the sum
pub term_at_most : (n i : ℕ) (f : ℕ → ℕ) → i < n → f i ≤ sum_below n f
term_at_most n i f l = omega (arith, three_parts n i f l)

-- where one term changes, the sum changes by as much
pub sum_changed : (n i : ℕ) (f g : ℕ → ℕ) → i < n → ((k : ℕ) → k < n → k ≢ i → f k ≡ g k) → sum_below n f + g i ≡ sum_below n g + f i
sum_changed n i f g l same =
    let before : sum_below i f ≡ sum_below i g = sum_agree i f g (λ k h. same k (omega arith) (λ e. omega arith)) in
    let after : sum_below (n - suc i) (λ m. f (suc i + m)) ≡ sum_below (n - suc i) (λ m. g (suc i + m)) =
    sum_agree (n - suc i) _ _ (λ m h. same (suc i + m) (omega arith) (λ e. omega arith)) in
    omega (arith, three_parts n i f l, three_parts n i g l)

-- where one term grows by d and the others stay, the sum grows by d
pub sum_grown : (n : ℕ) (f g : ℕ → ℕ) (i d : ℕ) → i < n → g i ≡ f i + d → ((k : ℕ) → k < n → k ≢ i → g k ≡ f k)
    → sum_below n g ≡ sum_below n f + d
sum_grown n f g i d l at others = omega (arith, sum_changed n i g f l others)

-- a test counts at most one
pub one_if_bound : (b : Bool) → one_if b ≤ 1
one_if_bound true = omega arith
one_if_bound false = omega arith

-- at most n of the numbers below n pass
pub passing_bound : (n : ℕ) (f : ℕ → Bool) → sum_below n (λ k. one_if (f k)) ≤ n
passing_bound n f = omega (arith, sum_bound_lem n 1 (λ k. one_if (f k)) (λ k l. one_if_bound (f k)))
