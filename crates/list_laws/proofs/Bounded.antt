-- What the searches below a bound find. Assumes nothing.
use Rattle.list_laws.proofs.Kit.{◌∙◌, ◌≡◌, ap, refl, sym, Bool, false, false≢true, not, true, ◌⊎◌, inl, inr, ⊎_elim, ◌+◌, ◌<◌, ◌≤◌, suc, zero, ℕ}
use Rattle.list_laws.proofs.Kit.{add-suc, eq-or-lt_of_le, le_refl, not-suc-le-zero, arith, not-false, not-true}
use Rattle.model.specs.Bounded.{any_below, all_below, first_from}
use Rattle.list_laws.proofs.Tests.{same_tests, fails, clash}
use Rattle.list_laws.proofs.Numbers.{below_suc}

-- a number below n that passes
pub record Witness (n : ℕ) (f : ℕ → Bool) : Type 0 where
  pub number : ℕ
  pub below : number < n
  pub passing : f number ≡ true

witness_step : (n : ℕ) (f : ℕ → Bool) (b : Bool) → f n ≡ b → (any_below n f ≡ true → Witness n f)
    → elim b as (λ _. Bool) [ true ↦ true | false ↦ any_below n f ] ≡ true → Witness (suc n) f
witness_step n f true h earlier e = record { number = n; below = le_refl (suc n); passing = h }
witness_step n f false h earlier e =
    let w : Witness n f = earlier e in
    record { number = w.number; below = omega arith; passing = w.passing }

-- where the search says yes, there is a number that passes
pub any_witness : (n : ℕ) (f : ℕ → Bool) → any_below n f ≡ true → Witness n f
any_witness zero f e = absurd (false≢true e)
any_witness (suc n) f e = witness_step n f (f n) refl (any_witness n f) e

any_step : (n k : ℕ) (f : ℕ → Bool) (b : Bool) → f n ≡ b → f k ≡ true → (k ≡ n) ⊎ (k < n) → (k < n → any_below n f ≡ true)
    → elim b as (λ _. Bool) [ true ↦ true | false ↦ any_below n f ] ≡ true
any_step n k f true h p c earlier = refl
any_step n k f false h p (inl e) earlier = absurd (clash p (ap f e ∙ h))
any_step n k f false h p (inr l) earlier = earlier l

-- where a number passes, the search says yes
pub any_from : (n k : ℕ) (f : ℕ → Bool) → k < n → f k ≡ true → any_below n f ≡ true
any_from zero k f l p = absurd (not-suc-le-zero l)
any_from (suc n) k f l p = any_step n k f (f n) refl p (below_suc l) (λ l'. any_from n k f l' p)

-- where the search says no, no number passes
pub any_none : (n : ℕ) (f : ℕ → Bool) → any_below n f ≡ false → (k : ℕ) → k < n → f k ≡ false
any_none n f e k l = fails (f k) (λ p. clash (any_from n k f l p) e)

-- where no number passes, the search says no
pub none_any : (n : ℕ) (f : ℕ → Bool) → ((k : ℕ) → k < n → f k ≡ false) → any_below n f ≡ false
none_any n f h = fails (any_below n f) (λ e. let w : Witness n f = any_witness n f e in clash w.passing (h w.number w.below))

-- tests that agree below n have the same search
pub any_agree : (n : ℕ) (f g : ℕ → Bool) → ((k : ℕ) → k < n → f k ≡ g k) → any_below n f ≡ any_below n g
any_agree n f g h =
    same_tests (any_below n f) (any_below n g)
    (λ e. let w : Witness n f = any_witness n f e in any_from n w.number g w.below (sym (h w.number w.below) ∙ w.passing))
    (λ e. let w : Witness n g = any_witness n g e in any_from n w.number f w.below (h w.number w.below ∙ w.passing))

-- every number below n passes
pub all_at : (n : ℕ) (f : ℕ → Bool) → all_below n f ≡ true → (k : ℕ) → k < n → f k ≡ true
all_at n f e k l = not-false (f k) (any_none n (λ i. not (f i)) (not-true (any_below n (λ i. not (f i))) e) k l)

pub all_from : (n : ℕ) (f : ℕ → Bool) → ((k : ℕ) → k < n → f k ≡ true) → all_below n f ≡ true
all_from n f h = ap not (none_any n (λ i. not (f i)) (λ k l. ap not (h k l)))

-- ── the first that passes ──

-- what is known of `first_from f t left`: where it stops, all before it fail, and it passes unless it ran out
pub record First (f : ℕ → Bool) (t left stop : ℕ) : Type 0 where
  pub low : t ≤ stop
  pub high : stop ≤ t + left
  pub before : (k : ℕ) → t ≤ k → k < stop → f k ≡ false
  pub passing : stop < t + left → f stop ≡ true

first_step : (f : ℕ → Bool) (t left : ℕ) (b : Bool) → f t ≡ b → First f (suc t) left (first_from f (suc t) left)
    → First f t (suc left) (elim b as (λ _. ℕ) [ true ↦ t | false ↦ first_from f (suc t) left ])
first_step f t left true h r =
    record { low = omega arith; high = omega arith; before = λ k l l'. absurd (omega arith); passing = λ _. h }
first_step f t left false h r =
    record {
      low = let a = r.low in omega arith;
      high = let a = r.high in omega (arith, add-suc t left);
      before = λ k l l'. ⊎_elim (λ e. ap f (sym e) ∙ h) (λ l''. r.before k l'' l') (eq-or-lt_of_le l);
      passing = λ l. r.passing (omega arith);
    }

pub first_from_lem : (f : ℕ → Bool) (t left : ℕ) → First f t left (first_from f t left)
first_from_lem f t zero = record { low = le_refl t; high = omega arith; before = λ k l l'. absurd (omega arith); passing = λ l. absurd (omega arith) }
first_from_lem f t (suc left) = first_step f t left (f t) refl (first_from_lem f (suc t) left)
