-- Document 01, 'Strips' and 'No-fit rows and penalty': the maximal runs of the numbers below a bound that pass a test. The list
-- `runs f n` holds just the numbers that pass, each run is maximal, and runs ascend with a gap; so the list fixes the test below n
-- and the test fixes the list. All of it follows from one description of the list, `RunsOver`, that the pass over the numbers
-- from 0 to n keeps: `Pending` says what is known of the numbers that are read and not yet listed. Assumes nothing.
use Rattle.list_laws.proofs.Kit.{◌∙◌, ◌≡◌, ap, refl, subst, sym, Bool, false, false≢true, true, true≢false, ◌↔◌, ◌⊎◌, inl, inr, ⊎_elim, List, Memᴰ}
use Rattle.list_laws.proofs.Kit.{Memᴰ-head, Memᴰ-not_nil, Memᴰ-tail, [], ◌∷◌, ◌+◌, ◌-◌, ◌<◌, ◌≤◌, suc, zero, ℕ, eq-or-lt_of_le, arith}
use Rattle.model.specs.Strip.{Run, closing, runs_from, runs}
use Rattle.list_laws.proofs.Tests.{fails, clash, same_tests}
use Rattle.list_laws.proofs.Numbers.{below_or}
use Rattle.strip_laws.specs.Lists.{Pairwise, none, more}

-- a run is maximal among the numbers below n that pass: it is not empty, lies below n, all its numbers pass, the number before
-- it, if there is one, fails, and the number after it fails or is n
pub record MaximalRun (f : ℕ → Bool) (n : ℕ) (r : Run) : Type 0 where
  pub some : 0 < r.count
  pub within : r.first + r.count ≤ n
  pub passing : (k : ℕ) → r.first ≤ k → k < r.first + r.count → f k ≡ true
  pub before : (k : ℕ) → suc k ≡ r.first → f k ≡ false
  pub after : r.first + r.count < n → f (r.first + r.count) ≡ false

-- the number k lies in a run of the list
pub record InRuns (k : ℕ) (rs : List Run) : Type 0 where
  pub run : Run
  pub listed : Memᴰ run rs
  pub low : run.first ≤ k
  pub high : k < run.first + run.count

-- a run ends before another begins, with a gap
abbrev pub RunBefore : Run → Run → Type 0
RunBefore r q = r.first + r.count < q.first

-- the list has just the maximal runs of the numbers from `from` on and below n
pub data RunsOver (f : ℕ → Bool) (n : ℕ) : ℕ → List Run → Type 0 where
  no_run : {from : ℕ} → ((k : ℕ) → from ≤ k → k < n → f k ≡ false) → RunsOver f n from []
  run_then : {from : ℕ} {r : Run} {rs : List Run} → from ≤ r.first → ((k : ℕ) → from ≤ k → k < r.first → f k ≡ false)
      → MaximalRun f n r → RunsOver f n (suc (r.first + r.count)) rs → RunsOver f n from (r ∷ rs)

-- the numbers from `from` on and below i are read: all fail but the last `run` ones, which pass
record Pending (f : ℕ → Bool) (from i run : ℕ) : Type 0 where
  fits : from + run ≤ i
  skipped : (k : ℕ) → from ≤ k → k + run < i → f k ≡ false
  passing : (k : ℕ) → i ≤ k + run → k < i → f k ≡ true
  before : (k : ℕ) → suc k + run ≡ i → f k ≡ false

-- the pending run is listed where it ends
run_ends : (f : ℕ → Bool) (n from i run : ℕ) (later : List Run) → i ≤ n → (i < n → f i ≡ false) → Pending f from i (suc run)
    → RunsOver f n (suc i) later → RunsOver f n from (closing i (suc run) later)
run_ends f n from i run later l e p o =
    let fits : from + suc run ≤ i = p.fits in
    let last : i - suc run + suc run ≡ i = omega arith in
    run_then {from = from} {r = record { first = i - suc run; count = suc run }} (omega arith) (λ k a b. p.skipped k a (omega arith))
    record {
      some = omega arith;
      within = omega arith;
      passing = λ k a b. p.passing k (omega arith) (omega arith);
      before = λ k a. p.before k (omega arith);
      after = λ a. ap f last ∙ e (omega arith);
    }
    (subst (λ (k : ℕ). RunsOver f n (suc k) later) (sym last) o)

-- one more number that passes
one_passes : (f : ℕ → Bool) (from i run : ℕ) → f i ≡ true → Pending f from i run → Pending f from (suc i) (suc run)
one_passes f from i run e p =
    record {
      fits = let a = p.fits in omega arith;
      skipped = λ k a b. p.skipped k a (omega arith);
      passing = λ k a b. ⊎_elim (λ (q : k ≡ i). ap f q ∙ e) (λ (q : k < i). p.passing k (omega arith) q) (eq-or-lt_of_le (omega arith));
      before = λ k a. p.before k (omega arith);
    }

-- one more number that fails, with no run before it
one_fails : (f : ℕ → Bool) (from i : ℕ) → f i ≡ false → Pending f from i 0 → Pending f from (suc i) 0
one_fails f from i e p =
    record {
      fits = let a = p.fits in omega arith;
      skipped = λ k a b. ⊎_elim (λ (q : k ≡ i). ap f q ∙ e) (λ (q : k < i). p.skipped k a (omega arith)) (eq-or-lt_of_le (omega arith));
      passing = λ k a b. absurd (omega arith);
      before = λ k a. let q : k ≡ i = omega arith in ap f q ∙ e;
    }

-- nothing is read since i, which fails
fresh : (f : ℕ → Bool) (i : ℕ) → f i ≡ false → Pending f (suc i) (suc i) 0
fresh f i e =
    record {
      fits = omega arith;
      skipped = λ k a b. absurd (omega arith);
      passing = λ k a b. absurd (omega arith);
      before = λ k a. let q : k ≡ i = omega arith in ap f q ∙ e;
    }

-- the runs from i on, given what the test says of i
abbrev reading : (ℕ → Bool) → ℕ → ℕ → ℕ → Bool → List Run
reading f i left run b = elim b [ true ↦ runs_from f (suc i) left (suc run) | false ↦ closing i run (runs_from f (suc i) left 0) ]

-- one number read
runs_step : (f : ℕ → Bool) (n i left run from : ℕ) (b : Bool) → f i ≡ b → i + suc left ≡ n
    → ((run from : ℕ) → Pending f from (suc i) run → RunsOver f n from (runs_from f (suc i) left run))
    → Pending f from i run
    → RunsOver f n from (reading f i left run b)
runs_step f n i left run from true e t rest p = rest (suc run) from (one_passes f from i run e p)
runs_step f n i left zero from false e t rest p = rest 0 from (one_fails f from i e p)
runs_step f n i left (suc run) from false e t rest p =
    run_ends f n from i run (runs_from f (suc i) left 0) (omega arith) (λ _. e) p (rest 0 (suc i) (fresh f i e))

-- the pass from i on lists just the maximal runs
runs_from_lem : (f : ℕ → Bool) (n i left run from : ℕ) → i + left ≡ n → Pending f from i run → RunsOver f n from (runs_from f i left run)
unfolding runs_from
runs_from_lem f n i zero zero from t p = no_run (λ k a b. p.skipped k a (omega arith))
runs_from_lem f n i zero (suc run) from t p =
    run_ends f n from i run [] (omega arith) (λ a. absurd (omega arith)) p (no_run (λ k a b. absurd (omega arith)))
runs_from_lem f n i (suc left) run from t p =
    runs_step f n i left run from (f i) refl t (λ run from. runs_from_lem f n (suc i) left run from (omega arith)) p

-- `runs f n` lists just the maximal runs of the numbers below n
pub runs_over : (f : ℕ → Bool) (n : ℕ) → RunsOver f n 0 (runs f n)
runs_over f n =
    runs_from_lem f n 0 n 0 0 (omega arith)
    record {
      fits = omega arith;
      skipped = λ k a b. absurd (omega arith);
      passing = λ k a b. absurd (omega arith);
      before = λ k a. absurd (omega arith);
    }

-- ── what the description gives ──

-- a number in a later run is in the list
pub in_later : {k : ℕ} {r : Run} {rs : List Run} → InRuns k rs → InRuns k (r ∷ rs)
in_later w = record { run = w.run; listed = Memᴰ-tail w.listed; low = w.low; high = w.high }

-- every run of the list is maximal
pub over_maximal : {f : ℕ → Bool} {n from : ℕ} {rs : List Run} → RunsOver f n from rs → (r : Run) → Memᴰ r rs → MaximalRun f n r
over_maximal (no_run a) r m = absurd (Memᴰ-not_nil m)
over_maximal {f} {n} (run_then a b c o) r (Memᴰ-head e) = subst (MaximalRun f n) (sym e) c
over_maximal (run_then a b c o) r (Memᴰ-tail m) = over_maximal o r m

-- no run of the list begins before `from`
pub over_from : {f : ℕ → Bool} {n from : ℕ} {rs : List Run} → RunsOver f n from rs → (r : Run) → Memᴰ r rs → from ≤ r.first
over_from (no_run a) r m = absurd (Memᴰ-not_nil m)
over_from {from = i} (run_then a b c o) r (Memᴰ-head e) = subst (λ (q : Run). i ≤ q.first) (sym e) a
over_from (run_then a b c o) r (Memᴰ-tail m) = let h = over_from o r m in omega arith

-- a number from the first run on that passes is in that run or, from past its end on, in a later one
complete_step : (f : ℕ → Bool) (n : ℕ) (r : Run) (rs : List Run) (k : ℕ) → MaximalRun f n r → k < n → f k ≡ true → r.first ≤ k
    → (r.first + r.count < k → InRuns k rs) → (k < r.first + r.count) ⊎ (r.first + r.count ≤ k) → InRuns k (r ∷ rs)
complete_step f n r rs k c h e l later (inl q) = record { run = r; listed = Memᴰ-head refl; low = l; high = q }
complete_step f n r rs k c h e l later (inr q) =
    ⊎_elim (λ (v : r.first + r.count ≡ k). absurd (clash e (subst (λ (m : ℕ). m < n → f m ≡ false) v c.after h)))
    (λ (v : r.first + r.count < k). in_later (later v))
    (eq-or-lt_of_le q)

-- every number that passes is in a run of the list
pub over_complete : {f : ℕ → Bool} {n from : ℕ} {rs : List Run} → RunsOver f n from rs → (k : ℕ) → from ≤ k → k < n → f k ≡ true
    → InRuns k rs
over_complete (no_run a) k l h e = absurd (clash e (a k l h))
over_complete {f} {n} (run_then {r = r} {rs = rs} a b c o) k l h e =
    ⊎_elim (λ (q : k < r.first). absurd (clash e (b k l q)))
    (λ (q : r.first ≤ k). complete_step f n r rs k c h e q (λ v. over_complete o k v h e) (below_or k (r.first + r.count)))
    (below_or k r.first)

-- the runs ascend, each ending before the next begins, with a gap
pub over_ascending : {f : ℕ → Bool} {n from : ℕ} {rs : List Run} → RunsOver f n from rs → Pairwise RunBefore rs
over_ascending (no_run a) = none
over_ascending (run_then a b c o) = more (over_from o) (over_ascending o)

-- ── the laws of `runs` ──

-- a number lies in a run of the list exactly when it is below n and passes
pub runs_exactly : (f : ℕ → Bool) (n k : ℕ) → InRuns k (runs f n) ↔ ((k < n) × (f k ≡ true))
runs_exactly f n k = (
  λ w.
      let m : MaximalRun f n w.run = over_maximal (runs_over f n) w.run w.listed in
      let a : w.run.first + w.run.count ≤ n = m.within in
      let b : k < w.run.first + w.run.count = w.high in
      (omega arith, m.passing k w.low b),
  λ h. over_complete (runs_over f n) k (omega arith) h.0 h.1,
)

-- each run of the list is maximal
pub runs_maximal : (f : ℕ → Bool) (n : ℕ) (r : Run) → Memᴰ r (runs f n) → MaximalRun f n r
runs_maximal f n = over_maximal (runs_over f n)

-- the runs ascend: each ends strictly below where every later one begins
pub runs_ascending : (f : ℕ → Bool) (n : ℕ) → Pairwise RunBefore (runs f n)
runs_ascending f n = over_ascending (runs_over f n)

-- two tests that agree on the numbers that are left
agree_step : (f g : ℕ → Bool) (i left run : ℕ) (b c : Bool) → b ≡ c
    → ((run : ℕ) → runs_from f (suc i) left run ≡ runs_from g (suc i) left run)
    → reading f i left run b ≡ reading g i left run c
agree_step f g i left run true true e rest = rest (suc run)
agree_step f g i left run true false e rest = absurd (true≢false e)
agree_step f g i left run false true e rest = absurd (false≢true e)
agree_step f g i left run false false e rest = ap (closing i run) (rest 0)

-- tests that agree on the numbers that are left have the same runs from there on
agree_from : (f g : ℕ → Bool) (i left run : ℕ) → ((k : ℕ) → i ≤ k → k < i + left → f k ≡ g k) → runs_from f i left run ≡ runs_from g i left run
unfolding runs_from
agree_from f g i zero run h = refl
agree_from f g i (suc left) run h =
    agree_step f g i left run (f i) (g i) (h i (omega arith) (omega arith))
    (λ run. agree_from f g (suc i) left run (λ k a b. h k (omega arith) (omega arith)))

-- tests that agree below n have the same runs
pub runs_agree : (f g : ℕ → Bool) (n : ℕ) → ((k : ℕ) → k < n → f k ≡ g k) → runs f n ≡ runs g n
runs_agree f g n h = agree_from f g 0 n 0 (λ k a b. h k (omega arith))

-- the runs determine the test below n
pub runs_determine : (f g : ℕ → Bool) (n : ℕ) → runs f n ≡ runs g n → (k : ℕ) → k < n → f k ≡ g k
runs_determine f g n e k h =
    same_tests (f k) (g k)
    (λ p. ((runs_exactly g n k).0 (subst (InRuns k) e ((runs_exactly f n k).1 (h, p)))).1)
    (λ p. ((runs_exactly f n k).0 (subst (InRuns k) (sym e) ((runs_exactly g n k).1 (h, p)))).1)

-- a list with a run in it has a number that passes
none_step : (f : ℕ → Bool) (n from : ℕ) (rs : List Run) → RunsOver f n from rs → ((k : ℕ) → from ≤ k → k < n → f k ≡ false) → rs ≡ []
none_step f n from [] (no_run a) h = refl
none_step f n from (r ∷ rs) (run_then a b c o) h =
    let some : 0 < r.count = c.some in
    let within : r.first + r.count ≤ n = c.within in
    absurd (clash (c.passing r.first (omega arith) (omega arith)) (h r.first a (omega arith)))

-- no number is in an empty list of runs
pub not_in_none : {k : ℕ} → InRuns k [] → ⊥
not_in_none w = Memᴰ-not_nil w.listed

-- there is no run exactly when no number below n passes
pub runs_none : (f : ℕ → Bool) (n : ℕ) → (runs f n ≡ []) ↔ ((k : ℕ) → k < n → f k ≡ false)
runs_none f n = (
  λ e k h. fails (f k) (λ p. not_in_none (subst (InRuns k) e ((runs_exactly f n k).1 (h, p)))),
  λ h. none_step f n 0 (runs f n) (runs_over f n) (λ k l. h k),
)

-- ── one list alone is described so ──

-- a first maximal run does not begin after another
not_after_lem : (f : ℕ → Bool) (n from : ℕ) (r q : Run) → from ≤ r.first → ((k : ℕ) → from ≤ k → k < q.first → f k ≡ false)
    → MaximalRun f n r → ¬ (r.first < q.first)
not_after_lem f n from r q a b c l =
    let some : 0 < r.count = c.some in
    clash (c.passing r.first (omega arith) (omega arith)) (b r.first a l)

-- of two maximal runs with the same first number neither is longer
not_longer : (f : ℕ → Bool) (n : ℕ) (r q : Run) → MaximalRun f n r → MaximalRun f n q → r.first ≡ q.first → ¬ (r.count < q.count)
not_longer f n r q c d e l =
    let within : q.first + q.count ≤ n = d.within in
    clash (d.passing (r.first + r.count) (omega arith) (omega arith)) (c.after (omega arith))

-- two first maximal runs are one
same_run : (f : ℕ → Bool) (n from : ℕ) (r q : Run) → from ≤ r.first → from ≤ q.first
    → ((k : ℕ) → from ≤ k → k < r.first → f k ≡ false) → ((k : ℕ) → from ≤ k → k < q.first → f k ≡ false)
    → MaximalRun f n r → MaximalRun f n q → r ≡ q
same_run f n from r q a a' b b' c c' =
    let u = not_after_lem f n from r q a b' c in
    let v = not_after_lem f n from q r a' b c' in
    let e : r.first ≡ q.first = omega arith in
    let u' = not_longer f n r q c c' e in
    let v' = not_longer f n q r c' c (sym e) in
    let e' : r.count ≡ q.count = omega arith in
    λ i. record { first = e i; count = e' i }

-- two lists described as the runs are one
pub over_unique : {f : ℕ → Bool} {n from : ℕ} {rs qs : List Run} → RunsOver f n from rs → RunsOver f n from qs → rs ≡ qs
over_unique (no_run a) (no_run b) = refl
over_unique {f} {n} {from} (no_run a) (run_then {r = q} {rs = qs} l b c o) = sym (none_step f n from (q ∷ qs) (run_then l b c o) a)
over_unique {f} {n} {from} (run_then {r = r} {rs = rs} l b c o) (no_run a) = none_step f n from (r ∷ rs) (run_then l b c o) a
over_unique {f} {n} {from} (run_then {r = r} {rs = rs} l b c o) (run_then {r = q} {rs = qs} l' b' c' o') =
    let e : r ≡ q = same_run f n from r q l l' b b' c c' in
    let t : rs ≡ qs = over_unique o (subst (λ (u : Run). RunsOver f n (suc (u.first + u.count)) qs) (sym e) o') in
    λ i. e i ∷ t i

-- a list described as the runs is the list of runs
pub runs_unique : (f : ℕ → Bool) (n : ℕ) (rs : List Run) → RunsOver f n 0 rs → rs ≡ runs f n
runs_unique f n rs o = over_unique o (runs_over f n)
