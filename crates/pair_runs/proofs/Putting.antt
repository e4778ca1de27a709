-- Runs put into a buffer one after the other: what is left of them is still to be put. Assumes nothing.
use Rattle.list_laws.proofs.Kit.{◌∙◌, ◌≡◌, ap, ap₂, refl, sym, Bool, false, true, ⊎_elim, List, [], ◌∷◌, map, ◌+◌, ◌-◌, ◌<◌, ◌≤◌, suc, zero, ℕ, add-one}
use Rattle.list_laws.proofs.Kit.{add-zero, zero-add, arith, length, set, length-sets, set_out, sets, pos, sub_ℕ, ℤ}
use Rattle.list_laws.proofs.Numbers.{below_or}
use Rattle.list_laws.proofs.Tests.{clash}
use Rattle.model.specs.Strip.{Run, closing, runs_from, runs}
use Rattle.bit_laws.specs.Bit.{bit_in}
use Rattle.pair_runs.specs.Runs.{offset_entry, offset_count, NextPlace, Put}

-- ── one run ──

-- no run
pub put_none : (end count at : ℕ) (before : List (List ℤ)) → count ≡ 0 → Put (closing end count []) before at before at
put_none end zero at before e = record { end = sym (add-zero at); stored = refl }
put_none end (suc n) at before e = absurd (omega arith)

-- no room for it
pub put_past : (end count at : ℕ) (before : List (List ℤ)) → 0 < count → length before ≤ at → Put (closing end count []) before at before (at + 1)
put_past end zero at before l h = absurd (omega arith)
put_past end (suc n) at before l h = record { end = refl; stored = sym (set_out before at _ h) }

-- stored
pub put_one : (end count at : ℕ) (before : List (List ℤ)) (first many : ℤ) → 0 < count → first ≡ sub_ℕ (end - count) 262 → many ≡ pos count
    → Put (closing end count []) before at (set before at (first ∷ many ∷ [])) (at + 1)
put_one end zero at before first many l e f = absurd (omega arith)
put_one end (suc n) at before first many l e f =
    record { end = refl; stored = ap₂ (λ (x y : ℤ). set before at (x ∷ y ∷ [])) e f }

-- ── the runs that are left ──

-- a number that passes makes the run longer
runs_marked : (f : ℕ → Bool) (k left run : ℕ) → f k ≡ true → runs_from f k (suc left) run ≡ runs_from f (suc k) left (suc run)
unfolding runs_from
runs_marked f k left run e = rw (e, runs_from)

-- one that fails ends it
runs_free : (f : ℕ → Bool) (k left run : ℕ) → f k ≡ false → runs_from f k (suc left) run ≡ closing k run (runs_from f (suc k) left 0)
unfolding runs_from
runs_free f k left run e = rw (e, runs_from)

-- so does the last
runs_end : (f : ℕ → Bool) (k run : ℕ) → runs_from f k 0 run ≡ closing k run []
unfolding runs_from
runs_end f k run = refl

-- n numbers that fail are passed at once
runs_skip : (f : ℕ → Bool) (k left n : ℕ) → ((m : ℕ) → k ≤ m → m < k + n → f m ≡ false) → runs_from f k (n + left) 0 ≡ runs_from f (k + n) left 0
runs_skip f k left zero e = ap₂ (λ (x y : ℕ). runs_from f x y 0) (sym (add-zero k)) (zero-add left)
runs_skip f k left (suc n) e =
    let more : suc n + left ≡ suc (n + left) = omega arith in
    let on : suc k + n ≡ k + suc n = omega arith in
    ap (λ (x : ℕ). runs_from f k x 0) more ∙ runs_free f k (n + left) 0 (e k (omega arith) (omega arith))
    ∙ runs_skip f (suc k) left n (λ m a b. e m (omega arith) (omega arith)) ∙ ap (λ (x : ℕ). runs_from f x left 0) on

-- so are n that pass
runs_stretch : (f : ℕ → Bool) (k left run n : ℕ) → ((m : ℕ) → k ≤ m → m < k + n → f m ≡ true)
    → runs_from f k (n + left) run ≡ runs_from f (k + n) left (run + n)
runs_stretch f k left run zero e =
    ap (λ (x : ℕ). runs_from f k x run) (zero-add left) ∙ ap₂ (λ (x y : ℕ). runs_from f x left y) (sym (add-zero k)) (sym (add-zero run))
runs_stretch f k left run (suc n) e =
    let more : suc n + left ≡ suc (n + left) = omega arith in
    let on : suc k + n ≡ k + suc n = omega arith in
    let many : suc run + n ≡ run + suc n = omega arith in
    ap (λ (x : ℕ). runs_from f k x run) more ∙ runs_marked f k (n + left) run (e k (omega arith) (omega arith))
    ∙ runs_stretch f (suc k) left (suc run) n (λ m a b. e m (omega arith) (omega arith)) ∙ ap₂ (λ (x y : ℕ). runs_from f x left y) on many

-- a run ends where a number fails, or there is none more
runs_closed : (f : ℕ → Bool) (k left run : ℕ) → (0 < left → f k ≡ false) → runs_from f k left run ≡ closing k run (runs_from f k left 0)
runs_closed f k zero run e = runs_end f k run ∙ ap (closing k run) (sym (runs_end f k 0))
runs_closed f k (suc left) run e =
    let free : f k ≡ false = e (omega arith) in
    runs_free f k left run free ∙ ap (closing k run) (sym (runs_free f k left 0 free))

-- a run that ends, put before those that are left
closing_stored : (k run : ℕ) (rest : List Run) (before mid : List (List ℤ)) (at next : ℕ) → Put (closing k run []) before at mid next
    → sets before at (map offset_entry (closing k run rest)) ≡ sets mid next (map offset_entry rest)
closing_stored k zero rest before mid at next p =
    ap₂ (λ (l : List (List ℤ)) (i : ℕ). sets l i (map offset_entry rest)) (sym p.stored) (sym (p.end ∙ add-zero at))
closing_stored k (suc run) rest before mid at next p =
    ap₂ (λ (l : List (List ℤ)) (i : ℕ). sets l i (map offset_entry rest)) (sym p.stored) (sym (p.end ∙ add-one at))

-- it counts one, if there is one
closing_counted : (k run : ℕ) (rest : List Run) (before mid : List (List ℤ)) (at next : ℕ) → Put (closing k run []) before at mid next
    → at + length (closing k run rest) ≡ next + length rest
closing_counted k zero rest before mid at next p = omega (arith, p.end)
closing_counted k (suc run) rest before mid at next p = omega (arith, p.end)

-- and no more
closing_low : (k run : ℕ) (before mid : List (List ℤ)) (at next : ℕ) → Put (closing k run []) before at mid next → next ≤ at + 1
closing_low k zero before mid at next p = omega (arith, p.end)
closing_low k (suc run) before mid at next p = omega (arith, p.end)

-- what was put so far: the runs that are left, put from `at` on, give what all of them give
pub record Putting (marks : List ℕ) (first out : List (List ℤ)) (at k : ℕ) : Type 0 where
  pub within : k ≤ offset_count
  pub low : at ≤ k
  pub same : length out ≡ length first
  pub counted : at + length (runs_from (bit_in marks) k (offset_count - k) 0) ≡ length (runs (bit_in marks) offset_count)
  pub stored : sets out at (map offset_entry (runs_from (bit_in marks) k (offset_count - k) 0)) ≡ sets first 0 (map offset_entry (runs (bit_in marks) offset_count))

-- nothing is put
pub putting_start : (marks : List ℕ) (first : List (List ℤ)) → Putting marks first first 0 0
putting_start marks first = record { within = omega arith; low = omega arith; same = refl; counted = omega arith; stored = refl }

module _ (marks : List ℕ) (k r e : ℕ) (p : NextPlace marks true k r) (q : NextPlace marks false r e) where
  -- the run that begins at the next marked place and ends at the next free one comes before those from there on
  next_run : runs_from (bit_in marks) k (offset_count - k) 0 ≡ closing e (e - r) (runs_from (bit_in marks) e (offset_count - e) 0)
  next_run =
      let a = p.low in
      let b = q.low in
      let c = q.high in
      let skipped : offset_count - k ≡ (r - k) + (offset_count - r) = omega arith in
      let first : k + (r - k) ≡ r = omega arith in
      let passed : offset_count - r ≡ (e - r) + (offset_count - e) = omega arith in
      let end : r + (e - r) ≡ e = omega arith in
      ap (λ (x : ℕ). runs_from (bit_in marks) k x 0) skipped
      ∙ runs_skip (bit_in marks) k (offset_count - r) (r - k) (λ m x y. p.before m x (omega arith))
      ∙ ap₂ (λ (x y : ℕ). runs_from (bit_in marks) x y 0) first passed
      ∙ runs_stretch (bit_in marks) r (offset_count - e) 0 (e - r) (λ m x y. q.before m x (omega arith))
      ∙ ap₂ (λ (x y : ℕ). runs_from (bit_in marks) x (offset_count - e) y) end (zero-add (e - r))
      ∙ runs_closed (bit_in marks) e (offset_count - e) (e - r) (λ l. q.here (omega arith))

  -- it ends later
  pub next_later : k < offset_count → k < e
  next_later l =
      ⊎_elim (λ h. h)
      (λ (h : e ≤ k).
      let a = p.low in
      let b = q.low in
      let same : r ≡ e = omega arith in
      absurd (clash (p.here (omega arith)) (ap (bit_in marks) same ∙ q.here (omega arith))))
      (below_or k e)

module _ (marks : List ℕ) (first out : List (List ℤ)) (at k : ℕ) (w : Putting marks first out at k) where
  -- a run more
  pub putting_more : (r e : ℕ) → k < offset_count → NextPlace marks true k r → NextPlace marks false r e → (mid : List (List ℤ)) (next : ℕ)
      → Put (closing e (e - r) []) out at mid next → Putting marks first mid next e
  putting_more r e l p q mid next put =
      let rest : List Run = runs_from (bit_in marks) e (offset_count - e) 0 in
      let same : runs_from (bit_in marks) k (offset_count - k) 0 ≡ closing e (e - r) rest = next_run marks k r e p q in
      record {
        within = q.high;
        low = omega (arith, w.low, next_later marks k r e p q l, closing_low e (e - r) out mid at next put);
        same = ap length put.stored ∙ length-sets out at (map offset_entry (closing e (e - r) [])) ∙ w.same;
        counted = sym (closing_counted e (e - r) rest out mid at next put) ∙ ap (λ (z : List Run). at + length z) (sym same) ∙ w.counted;
        stored = sym (closing_stored e (e - r) rest out mid at next put) ∙ ap (λ (z : List Run). sets out at (map offset_entry z)) (sym same) ∙ w.stored;
      }

  -- at the end none is left
  pub putting_end : offset_count ≤ k → Put (runs (bit_in marks) offset_count) first 0 out at
  putting_end l =
      let b = w.within in
      let n : offset_count - k ≡ 0 = omega arith in
      let none : runs_from (bit_in marks) k (offset_count - k) 0 ≡ [] = ap (λ (z : ℕ). runs_from (bit_in marks) k z 0) n ∙ runs_end (bit_in marks) k 0 in
      record {
        end = omega (arith, w.counted, ap length none);
        stored = sym (ap (λ (z : List Run). sets out at (map offset_entry z)) none) ∙ w.stored;
      }
