-- The counts of a row after a piece's pixels of that row are added or taken off. Assumes nothing.
use Rattle.list_laws.proofs.Kit.{◌∙◌, ◌≡◌, ap, refl, Bool, ◌≢◌, ◌⊎◌, inl, inr, ⊎_elim, List, ◌+◌, ◌-◌, ◌<◌, ◌≤◌, suc, zero, ℕ, add-one, add-zero, arith, get_or}
use Rattle.list_laws.proofs.Kit.{length, length-set, set, get_or-set_other, get_or-set_same}
use Rattle.sheet_counts.specs.declared.Change.{Change}
use Rattle.sheet_counts.specs.Stamp.{moved, moved_run}

-- the first of the columns that are left
pub run_step : (change : Change) (f : ℕ → Bool) (from : ℕ) (cs : List ℕ) (x n : ℕ) → x < n
    → moved_run change f from cs x (n - x) ≡ moved_run change f from (set cs (from + x) (moved change (f x) (get_or cs (from + x) 0))) (x + 1) (n - (x + 1))
unfolding moved_run
run_step change f from cs x n l =
    let left : n - x ≡ suc (n - (x + 1)) = omega arith in
    rw (left, moved_run, add-one)

-- no column is left
pub run_end : (change : Change) (f : ℕ → Bool) (from : ℕ) (cs : List ℕ) (x n : ℕ) → n ≤ x → moved_run change f from cs x (n - x) ≡ cs
unfolding moved_run
run_end change f from cs x n l =
    let left : n - x ≡ 0 = omega arith in
    rw left

-- as many counts as before
pub length_run : (change : Change) (f : ℕ → Bool) (from : ℕ) (cs : List ℕ) (x left : ℕ) → length (moved_run change f from cs x left) ≡ length cs
unfolding moved_run
length_run change f from cs x zero = refl
length_run change f from cs x (suc left) =
    length_run change f from (set cs (from + x) (moved change (f x) (get_or cs (from + x) 0))) (suc x) left ∙ length-set cs (from + x) _

-- a count outside the columns that are left stays
pub run_outside : (change : Change) (f : ℕ → Bool) (from : ℕ) (cs : List ℕ) (x left m : ℕ) → (m < from + x) ⊎ (from + x + left ≤ m)
    → get_or (moved_run change f from cs x left) m 0 ≡ get_or cs m 0
unfolding moved_run
run_outside change f from cs x zero m h = refl
run_outside change f from cs x (suc left) m h =
    let apart : m ≢ from + x = ⊎_elim (λ l. omega arith) (λ l. omega arith) h in
    run_outside change f from (set cs (from + x) (moved change (f x) (get_or cs (from + x) 0))) (suc x) left m
    (⊎_elim (λ l. inl (omega arith)) (λ l. inr (omega arith)) h)
    ∙ get_or-set_other cs (from + x) m _ 0 apart

-- the count of a column that is left moves by its pixel
pub run_inside : (change : Change) (f : ℕ → Bool) (from : ℕ) (cs : List ℕ) (x left d : ℕ) → d < left → from + x + d < length cs
    → get_or (moved_run change f from cs x left) (from + (x + d)) 0 ≡ moved change (f (x + d)) (get_or cs (from + (x + d)) 0)
unfolding moved_run
run_inside change f from cs x zero d l h = absurd (omega arith)
run_inside change f from cs x (suc left) zero l h =
    rw add-zero
    (run_outside change f from (set cs (from + x) (moved change (f x) (get_or cs (from + x) 0))) (suc x) left (from + x) (inl (omega arith))
    ∙ get_or-set_same cs (from + x) _ 0 (omega arith))
run_inside change f from cs x (suc left) (suc d) l h =
    let shifted : x + suc d ≡ suc x + d = omega arith in
    let apart : from + (suc x + d) ≢ from + x = omega arith in
    rw shifted
    (run_inside change f from (set cs (from + x) (moved change (f x) (get_or cs (from + x) 0))) (suc x) left d (omega arith) (simp length-set (omega arith))
    ∙ ap (moved change (f (suc x + d))) (get_or-set_other cs (from + x) (from + (suc x + d)) _ 0 apart))
