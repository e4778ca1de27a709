-- Numbers: which of two is below the other, places in rows of one length, and factors. Assumes nothing.
use Rattle.list_laws.proofs.Kit.{◌≡◌, ◌≢◌, ◌⊎◌, inl, inr, ⊎_elim, ◌*◌, ◌+◌, ◌<◌, ◌≤◌, suc, zero, ℕ, eq-or-lt_of_le, le_of_suc-le-suc, mul-le-mul_right}
use Rattle.list_laws.proofs.Kit.{suc-mul, zero-mul, arith, ltb, ltb-false, ltb-true, dec_lt}
use Rattle.list_laws.proofs.Tests.{decided}

-- a number is below another or not
pub below_or : (m t : ℕ) → (m < t) ⊎ (t ≤ m)
below_or m t = ⊎_elim (λ e. inl (ltb-true m t e)) (λ e. inr (ltb-false m t e)) (decided (ltb m t))

-- below n + 1: below n, or n itself
pub below_suc : {k n : ℕ} → k < suc n → (k ≡ n) ⊎ (k < n)
below_suc h = eq-or-lt_of_le (le_of_suc-le-suc h)

-- below k + 1: below k, or k itself
pub below_more : {a k : ℕ} → a < k + 1 → (a ≡ k) ⊎ (a < k)
below_more h = eq-or-lt_of_le (omega arith)

-- of two numbers that differ one is the lower
pub apart : (i k : ℕ) → i ≢ k → (i < k) ⊎ (k < i)
apart i k d = by_test (dec_lt i k)
  where
    by_test : Dec (i < k) → (i < k) ⊎ (k < i)
    by_test (yes l) = inl l
    by_test (no h) = inr (omega arith)

-- place x of row y, in rows of l, lies before row w
pub in_rows_lem : {l w x y : ℕ} → x < l → y < w → y * l + x < w * l
in_rows_lem {l} {w} {x} {y} hx hy = let h : suc y * l ≤ w * l = mul-le-mul_right l hy in omega (arith, suc-mul y l)

-- a product that is not 0 has no factor 0
pub factor_positive : (q w : ℕ) → 0 < q * w → 0 < q
factor_positive zero w h = absurd (let z = zero-mul w in omega arith)
factor_positive (suc q) w h = omega arith
