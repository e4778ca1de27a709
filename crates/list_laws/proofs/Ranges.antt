-- What a chain of iterators over the numbers from 0 to a bound finds, in the words of the searches and sums below it. Assumes nothing.
use denote.Param.Members.{Mut}
use Rattle.std.proofs.iter.Yields.{nat_range_steps}
use Rattle.std.proofs.lemmas.Iterator.{YieldsList-from_range}
use Rattle.std.proofs.lemmas.Iterator.Search.{all_from_yields_List, any_from_yields_List}
use Rattle.std.specs.Fn.{Called}
use Rattle.std.specs.Iterator.{YieldsThen}
use Rattle.std.specs.List.{list_all, list_any, range_with_len, sum_by, FoldsTo}
use Rattle.std.proofs.lemmas.List.Folds.{list_all_more}
use Rattle.std.proofs.lemmas.List.Sums.{sum_by-cons}
use Rattle.list_laws.proofs.Sums.{sum_agree, sum_first}
use Rattle.std.specs.Option.{MatchOption}
use Rattle.std.specs.Prelude.{Option}
use Rattle.std.specs.declared.ops.Range.{Range}
use Rattle.list_laws.proofs.Kit.{◌∙◌, ◌≡◌, ap, refl, Bool, false, false≢true, true, not, ◌&&◌, ◌||◌, ⊎_elim, ◌+◌, ◌<◌, ◌≤◌, suc, zero, ℕ, List, [], ◌∷◌, add-one, add-zero, and-true, arith, get_or, length, take}
use Rattle.model.specs.Bounded.{any_below, all_below, sum_below}
use Rattle.list_laws.proofs.Tests.{same_tests, and_left, and_right, and_both, or_cases, or_left, or_right}
use Rattle.list_laws.proofs.Bounded.{all_at, all_from, any_agree, any_from, any_witness}

-- every number of a run of them passes
all_of : (f : ℕ → Bool) (a n : ℕ) → list_all f (range_with_len a n) ≡ true → (k : ℕ) → k < n → f (a + k) ≡ true
all_of f a zero e k l = absurd (omega arith)
all_of f a (suc n) e zero l = let i : a + 0 ≡ a = add-zero a in rw i (and_left (f a) _ e)
all_of f a (suc n) e (suc k) l =
    let h = all_of f (a + 1) n (and_right (f a) _ e) k (omega arith) in
    let i : a + 1 + k ≡ a + suc k = omega arith in
    rw i at h

of_all : (f : ℕ → Bool) (a n : ℕ) → ((k : ℕ) → k < n → f (a + k) ≡ true) → list_all f (range_with_len a n) ≡ true
of_all f a zero h = refl
of_all f a (suc n) h =
    and_both (let i : a + 0 ≡ a = add-zero a in rw i at (h 0 (omega arith)))
    (of_all f (a + 1) n (λ k l. let i : a + 1 + k ≡ a + suc k = omega arith in rw i (h (suc k) (omega arith))))

-- `(0..n).all(f)`
pub all_in_range : (f : ℕ → Bool) (n : ℕ) → list_all f (range_with_len 0 n) ≡ all_below n f
all_in_range f n =
    same_tests _ _ (λ e. all_from n f (λ k l. let h = all_of f 0 n e k l in let i : 0 + k ≡ k = omega arith in rw i at h))
    (λ e. of_all f 0 n (λ k l. let i : 0 + k ≡ k = omega arith in rw i (all_at n f e k l)))

-- some item passes where not all fail
any_by_all : (f : ℕ → Bool) (xs : List ℕ) → list_any f xs ≡ not (list_all (λ k. not (f k)) xs)
any_by_all f [] = refl
any_by_all f (x ∷ xs) = one (f x) _ _ (any_by_all f xs)
  where
    one : (p q r : Bool) → q ≡ not r → (p || q) ≡ not (not p && r)
    one true q r e = refl
    one false q r e = e

twice_not : (b : Bool) → not (not b) ≡ b
twice_not true = refl
twice_not false = refl

-- `(0..n).any(f)`
pub any_in_range : (f : ℕ → Bool) (n : ℕ) → list_any f (range_with_len 0 n) ≡ any_below n f
any_in_range f n =
    any_by_all f (range_with_len 0 n)
    ∙ ap not (all_in_range (λ k. not (f k)) n)
    ∙ twice_not (any_below n (λ k. not (not (f k))))
    ∙ any_agree n (λ k. not (not (f k))) f (λ k l. twice_not (f k))

-- what `(0..n).all(f)` answers, by the call's clause `ran`
pub all_over : {F : Type 0} {g : Mut F (ℕ × Unit {0}) Bool} {s : Range ℕ} (f : ℕ → Bool) (n : ℕ) (u : Range ℕ) (callee : F) (r : Bool)
    → (xs : List ℕ) × (o : Option ℕ) × (j : F) × YieldsThen nat_range_steps s xs o u × FoldsTo (λ p x q. Called g p (x, tt) true q) callee xs j
    × MatchOption o (r ≡ true) (λ x. (r ≡ false) × ((h : F) × Called g j (x, tt) false h))
    → s ≡ record { start = 0; end = n } → ((x : ℕ) (b : Bool) (q : F) → Called g callee (x, tt) b q → (q ≡ callee) × (b ≡ f x)) → r ≡ all_below n f
all_over f n u callee r ran e h = all_from_yields_List f u callee r ran (YieldsList-from_range 0 n n e (omega arith)) h ∙ all_in_range f n

-- what `(0..n).any(f)` answers
pub any_over : {F : Type 0} {g : Mut F (ℕ × Unit {0}) Bool} {s : Range ℕ} (f : ℕ → Bool) (n : ℕ) (u : Range ℕ) (callee : F) (r : Bool)
    → (xs : List ℕ) × (o : Option ℕ) × (j : F) × YieldsThen nat_range_steps s xs o u × FoldsTo (λ p x q. Called g p (x, tt) false q) callee xs j
    × MatchOption o (r ≡ false) (λ x. (r ≡ true) × ((h : F) × Called g j (x, tt) true h))
    → s ≡ record { start = 0; end = n } → ((x : ℕ) (b : Bool) (q : F) → Called g callee (x, tt) b q → (q ≡ callee) × (b ≡ f x)) → r ≡ any_below n f
any_over f n u callee r ran e h = any_from_yields_List f u callee r ran (YieldsList-from_range 0 n n e (omega arith)) h ∙ any_in_range f n

-- a run of numbers, summed
sum_of : (f : ℕ → ℕ) (a n : ℕ) → sum_by f (range_with_len a n) ≡ sum_below n (λ k. f (a + k))
sum_of f a zero = refl
sum_of f a (suc n) =
    let i : a + 0 ≡ a = add-zero a in
    let later : sum_below n (λ k. f (a + 1 + k)) ≡ sum_below n (λ k. f (a + suc k)) = sum_agree n _ _ (λ k l. ap f (omega arith)) in
    omega (arith, sum_by-cons f a (range_with_len (a + 1) n), sum_of f (a + 1) n, sum_first n (λ k. f (a + k)), ap f i)

-- `(0..n).map(f).sum()`
pub sum_in_range : (f : ℕ → ℕ) (n : ℕ) → sum_by f (range_with_len 0 n) ≡ sum_below n f
sum_in_range f n = sum_of f 0 n ∙ sum_agree n _ _ (λ k l. ap f (omega arith))

-- `items[..n].iter().all(f)`
pub all_in_front : {A : Type 0} (f : A → Bool) (xs : List A) (d : A) (n : ℕ) → n ≤ length xs → list_all f (take n xs) ≡ all_below n (λ k. f (get_or xs k d))
all_in_front f xs d zero l = refl
all_in_front f xs d (suc n) l =
    let more : list_all f (take (suc n) xs) ≡ (list_all f (take n xs) && f (get_or xs n d)) = rw (← add-one n) (list_all_more f xs n d l) in
    more ∙ step (f (get_or xs n d)) (any_below n (λ k. not (f (get_or xs k d)))) _ (all_in_front f xs d n (omega arith))
  where
    step : (p q r : Bool) → r ≡ not q → (r && p) ≡ not (elim (not p) as (λ _. Bool) [ true ↦ true | false ↦ q ])
    step true q r e = and-true r ∙ e
    step false q true e = refl
    step false q false e = refl

-- `items.iter().any(f)`
items_any : {A : Type 0} (f : A → Bool) (xs : List A) (d : A) → list_any f xs ≡ true → any_below (length xs) (λ k. f (get_or xs k d)) ≡ true
items_any f [] d e = absurd (false≢true e)
items_any f (x ∷ xs) d e =
    ⊎_elim (λ h. any_from (suc (length xs)) 0 (λ k. f (get_or (x ∷ xs) k d)) (omega arith) h)
    (λ h.
    let w = any_witness (length xs) (λ k. f (get_or xs k d)) (items_any f xs d h) in
    let l = w.below in
    any_from (suc (length xs)) (suc w.number) (λ k. f (get_or (x ∷ xs) k d)) (omega arith) w.passing) (or_cases (f x) _ e)

any_item : {A : Type 0} (f : A → Bool) (xs : List A) (d : A) (k : ℕ) → k < length xs → f (get_or xs k d) ≡ true → list_any f xs ≡ true
any_item f [] d k l p = absurd (omega arith)
any_item f (x ∷ xs) d zero l p = or_left (f x) _ p
any_item f (x ∷ xs) d (suc k) l p = or_right (f x) _ (any_item f xs d k (omega arith) p)

pub any_in_list : {A : Type 0} (f : A → Bool) (xs : List A) (d : A) → list_any f xs ≡ any_below (length xs) (λ k. f (get_or xs k d))
any_in_list f xs d =
    same_tests _ _ (items_any f xs d)
    (λ e. let w = any_witness (length xs) (λ k. f (get_or xs k d)) e in any_item f xs d w.number w.below w.passing)
