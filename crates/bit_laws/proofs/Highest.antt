-- The highest set bit of a word: `leading_zeros` tells its place, counted down from the top. Assumes nothing.
use Rattle.list_laws.proofs.Kit.{◌∙◌, ◌≡◌, ap, false, true, ◌⊎◌, inl, inr, ◌%◌, ◌-◌, ◌/◌, ◌<◌, ◌^◌, ◌≤◌, suc, zero, ℕ, arith}
use Rattle.list_laws.proofs.Numbers.{below_or}
use lib.Count.{count_leading_zeros, leading_top}
use Rattle.bit_laws.specs.Bit.{is_set, bit_at}
use Rattle.bit_laws.proofs.Laws.{bit_of_zero, bit_above}

-- the bit of the largest power of two is set
pub top_set : (j x : ℕ) → 2 ^ j ≤ x → x < 2 ^ suc j → bit_at x j ≡ true
unfolding bit_at
top_set zero x l h = let e : x % 2 ≡ 1 = omega arith in ap is_set e
top_set (suc j) x l h = top_set j (x / 2) (omega arith) (omega arith)

-- the bit after the leading zeros is set
pub leading_set : (k x : ℕ) → 0 < x → x < 2 ^ k → (count_leading_zeros k x < k) × (bit_at x (k - 1 - count_leading_zeros k x) ≡ true)
leading_set k x p h =
    let t = leading_top k x p h in
    let e : k - 1 - count_leading_zeros k x ≡ t.0 = omega (arith, t.1) in
    (omega (arith, t.1), ap (bit_at x) e ∙ top_set t.0 x t.2 t.3)

-- and none above it
pub leading_clear : (k x i : ℕ) → x < 2 ^ k → i < count_leading_zeros k x → bit_at x (k - 1 - i) ≡ false
leading_clear k x i h l = go (below_or 0 x)
  where
    go : (0 < x) ⊎ (x ≤ 0) → bit_at x (k - 1 - i) ≡ false
    go (inl p) = let t = leading_top k x p h in bit_above (suc t.0) x (k - 1 - i) t.3 (omega (arith, t.1))
    go (inr p) = ap (λ (n : ℕ). bit_at n (k - 1 - i)) (omega arith) ∙ bit_of_zero (k - 1 - i)
