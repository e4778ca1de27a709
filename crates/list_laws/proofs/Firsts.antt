-- The first number that passes a test, below a bound: its description fixes it, and a lesser bound cuts it off. Assumes nothing.
use Rattle.list_laws.proofs.Kit.{◌∙◌, ◌≡◌, ap, refl, subst, sym, ⊎_elim, Bool, false, true, ◌+◌, ◌-◌, ◌<◌, ◌≤◌, min, suc, zero, ℕ, le_antisymm, arith, by_contra}
use Rattle.model.specs.Bounded.{any_below, first_from}
use Rattle.list_laws.proofs.Tests.{clash}
use Rattle.list_laws.proofs.Numbers.{below_or, below_more}
use Rattle.list_laws.proofs.Bounded.{First, first_from_lem, Witness, any_witness, any_from, any_none, none_any}

-- r is the first number below the bound that passes, or the bound
pub record FirstBelow (f : ℕ → Bool) (bound r : ℕ) : Type 0 where
  pub within : r ≤ bound
  pub before : (k : ℕ) → k < r → f k ≡ false
  pub passing : r < bound → f r ≡ true

-- the search finds it
pub first_found : (f : ℕ → Bool) (bound : ℕ) → FirstBelow f bound (first_from f 0 bound)
first_found f bound =
    let w : First f 0 bound (first_from f 0 bound) = first_from_lem f 0 bound in
    let h = w.high in
    record { within = omega arith; before = λ k l. w.before k (omega arith) l; passing = λ l. w.passing (omega arith) }

-- one first number is not before another
not_before_lem : (f : ℕ → Bool) (bound r q : ℕ) → FirstBelow f bound r → FirstBelow f bound q → r ≤ q
not_before_lem f bound r q w z =
    let a = w.within in
    by_contra r q (λ (l : q < r). clash (z.passing (omega arith)) (w.before q l))

-- there is one such number
pub first_unique : (f : ℕ → Bool) (bound r : ℕ) → FirstBelow f bound r → r ≡ first_from f 0 bound
first_unique f bound r w =
    le_antisymm (not_before_lem f bound r _ w (first_found f bound)) (not_before_lem f bound _ r (first_found f bound) w)

-- a search with a lesser bound gives the lesser of that bound and what the search with the larger bound gives
pub first_cut : (f : ℕ → Bool) (bound p : ℕ) → p ≤ bound → first_from f 0 p ≡ min p (first_from f 0 bound)
first_cut f bound p l =
    let q = first_from f 0 bound in
    let b : FirstBelow f bound q = first_found f bound in
    sym
    (first_unique f p (min p q)
    record {
      within = omega arith;
      before = λ k m. b.before k (omega arith);
      passing = λ m. let e : min p q ≡ q = omega arith in rw e (b.passing (omega arith));
    })

-- where none passes it is the bound
pub first_none : (f : ℕ → Bool) (bound : ℕ) → ((k : ℕ) → k < bound → f k ≡ false) → bound ≡ first_from f 0 bound
first_none f bound none = first_unique f bound bound record { within = omega arith; before = none; passing = λ l. absurd (omega arith) }

-- tests that agree below the bound have the same first number
pub first_agree : (f g : ℕ → Bool) (bound : ℕ) → ((k : ℕ) → k < bound → f k ≡ g k) → first_from f 0 bound ≡ first_from g 0 bound
first_agree f g bound same =
    let w : FirstBelow f bound (first_from f 0 bound) = first_found f bound in
    let l = w.within in
    first_unique g bound (first_from f 0 bound)
    record {
      within = l;
      before = λ k m. sym (same k (omega arith)) ∙ w.before k m;
      passing = λ m. sym (same _ m) ∙ w.passing m;
    }

-- ── a loop from t up to n ──

-- a number that passes ends it
pub first_stop : (f : ℕ → Bool) (t n : ℕ) → t < n → f t ≡ true → first_from f t (n - t) ≡ t
first_stop f t n l e = let h : n - t ≡ suc (n - suc t) = omega arith in rw (h, e, first_from)

-- one that does not is passed over
pub first_go : (f : ℕ → Bool) (t n : ℕ) → t < n → f t ≡ false → first_from f t (n - t) ≡ first_from f (t + 1) (n - (t + 1))
first_go f t n l e =
    let h : n - t ≡ suc (n - suc t) = omega arith in
    let k : t + 1 ≡ suc t = omega arith in
    rw (h, k, e, first_from)

-- at n it ends
pub first_end : (f : ℕ → Bool) (t n : ℕ) → n ≤ t → first_from f t (n - t) ≡ t
first_end f t n l = let h : n - t ≡ 0 = omega arith in rw h

-- ── the test of 0, and those after it ──

-- a test that passes at once
pub first_now : (f : ℕ → Bool) (bound : ℕ) → f 0 ≡ true → first_from f 0 bound ≡ 0
first_now f bound e =
    sym (first_unique f bound 0 record { within = omega arith; before = λ k l. absurd (omega arith); passing = λ l. e })

-- the numbers before the one after
later_before : (f : ℕ → Bool) (bound : ℕ) → f 0 ≡ false → (k : ℕ) → k < first_from (λ r. f (suc r)) 0 bound + 1 → f k ≡ false
later_before f bound e zero l = e
later_before f bound e (suc k) l = (first_found (λ r. f (suc r)) bound).before k (omega arith)

-- a test that does not: one more than for the test from 1 on
pub first_later : (f : ℕ → Bool) (bound : ℕ) → f 0 ≡ false → first_from f 0 bound ≡ min (first_from (λ r. f (suc r)) 0 bound + 1) bound
first_later f bound e =
    let g : ℕ → Bool = λ r. f (suc r) in
    let q = first_from g 0 bound in
    let w : FirstBelow g bound q = first_found g bound in
    sym
    (first_unique f bound (min (q + 1) bound)
    record {
      within = omega arith;
      before = λ k l. later_before f bound e k (omega arith);
      passing = λ l. let z : min (q + 1) bound ≡ suc q = omega arith in ap f z ∙ w.passing (omega arith);
    })

-- ── some test of several ──

-- where there is no test yet it is the bound
pub first_begin : (f : ℕ → ℕ → Bool) (bound r : ℕ) → r ≡ bound → FirstBelow (λ m. any_below 0 (λ q. f q m)) bound r
first_begin f bound r e = record { within = omega arith; before = λ m l. refl; passing = λ l. absurd (omega arith) }

-- the first number that passes one test more
pub first_more : (f : ℕ → ℕ → Bool) (k bound room r : ℕ) → FirstBelow (λ m. any_below k (λ q. f q m)) bound room → r ≡ first_from (f k) 0 room
    → FirstBelow (λ m. any_below (k + 1) (λ q. f q m)) bound r
first_more f k bound room r h e =
    let w : FirstBelow (f k) room r = subst (FirstBelow (f k) room) (sym e) (first_found (f k) room) in
    let a = h.within in
    let b = w.within in
    record {
      within = omega arith;
      before = λ m l.
          none_any (k + 1) (λ q. f q m)
          (λ q n.
          ⊎_elim (λ (s : q ≡ k). ap (λ (z : ℕ). f z m) s ∙ w.before m l)
          (λ (s : q < k). any_none k (λ z. f z m) (h.before m (omega arith)) q s) (below_more n));
      passing = λ l.
          ⊎_elim (λ (s : r < room). any_from (k + 1) k (λ q. f q r) (omega arith) (w.passing s))
          (λ (s : room ≤ r).
          let same : r ≡ room = omega arith in
          let p : any_below k (λ q. f q r) ≡ true = subst (λ (z : ℕ). any_below k (λ q. f q z) ≡ true) (sym same) (h.passing (omega arith)) in
          let found : Witness k (λ q. f q r) = any_witness k (λ q. f q r) p in
          let there = found.below in
          any_from (k + 1) found.number (λ q. f q r) (omega arith) found.passing)
          (below_or r room);
    }
