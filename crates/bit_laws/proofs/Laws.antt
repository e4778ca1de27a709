-- Bit i of what the machine's operations give. `|`, `&` are `bit_or`, `bit_and`, `!x` is `2 ^ 64 - 1 - x`, `x << s` is `x * 2 ^ s % 2 ^ 64`, `x >> s` is
-- `x / 2 ^ s`. Assumes nothing.
use Rattle.list_laws.proofs.Kit.{◌∙◌, ◌≡◌, ap, ap₂, refl, sym, Bool, ◌&&◌, ◌||◌, false, not, true, ◌⊎◌, inl, inr, ◌%◌, ◌*◌, ◌+◌, ◌-◌, ◌/◌, ◌<◌, ◌^◌, ◌≤◌}
use Rattle.list_laws.proofs.Kit.{max, min, suc, zero, ℕ, mod-lt, mul-one, div-one, zero-add, suc-add, add-one, arith, leb, le-leb, lt-leb}
use Rattle.list_laws.proofs.Numbers.{below_or}
use native.Mathlib.Nat.{min-zero, zero-min, suc-min-suc, max-zero, zero-max, suc-max-suc, zero-lt-suc}
use native.Mathlib.Numerals.{one-add}
use lib.Arith.{digits_div, digits_mod}
use lib.Bits.{bit_and, bit_or, and_step, or_step, shifted_even, shifted_half}
use lib.Pow.{pow_pos, shr-shr, mod-pow-add}
use Rattle.bit_laws.specs.Bit.{is_set, bit_at}

-- nothing is added
pub or_false : (b : Bool) → (b || false) ≡ b
or_false true = refl
or_false false = refl

-- which of three is taken first plays no part
pub or_assoc : (a b c : Bool) → ((a || b) || c) ≡ (a || (b || c))
or_assoc true b c = refl
or_assoc false b c = refl

-- the larger of two digits is set where one of them is
set_max : (a b : ℕ) → is_set (max a b) ≡ (is_set a || is_set b)
set_max zero b = ap is_set (zero-max b)
set_max (suc a) zero = ap is_set (max-zero (suc a))
set_max (suc a) (suc b) = ap is_set (suc-max-suc a b)

-- the smaller where both are
set_min : (a b : ℕ) → is_set (min a b) ≡ (is_set a && is_set b)
set_min zero b = ap is_set (zero-min b)
set_min (suc a) zero = ap is_set (min-zero (suc a))
set_min (suc a) (suc b) = ap is_set (suc-min-suc a b)

-- a number from its half and its digit
pub bit_zero : (q d : ℕ) → d < 2 → bit_at (q * 2 + d) zero ≡ is_set d
unfolding bit_at
bit_zero q d h = ap is_set (digits_mod q h)

-- its further bits are those of the half
pub bit_suc : (q d i : ℕ) → d < 2 → bit_at (q * 2 + d) (suc i) ≡ bit_at q i
unfolding bit_at
bit_suc q d i h = ap (λ (x : ℕ). bit_at x i) (digits_div q h)

-- both are digits
max_lt : (x y : ℕ) → max (x % 2) (y % 2) < 2
max_lt x y = omega arith

min_lt : (x y : ℕ) → min (x % 2) (y % 2) < 2
min_lt x y = omega arith

-- `x | y`
pub bit_or_lem : (x y i : ℕ) → bit_at (bit_or x y) i ≡ (bit_at x i || bit_at y i)
unfolding bit_at
bit_or_lem x y zero = ap (λ (n : ℕ). bit_at n zero) (or_step x y) ∙ bit_zero _ _ (max_lt x y) ∙ set_max (x % 2) (y % 2)
bit_or_lem x y (suc i) = ap (λ (n : ℕ). bit_at n (suc i)) (or_step x y) ∙ bit_suc _ _ i (max_lt x y) ∙ bit_or_lem (x / 2) (y / 2) i

-- `x & y`
pub bit_and_lem : (x y i : ℕ) → bit_at (bit_and x y) i ≡ (bit_at x i && bit_at y i)
unfolding bit_at
bit_and_lem x y zero = ap (λ (n : ℕ). bit_at n zero) (and_step x y) ∙ bit_zero _ _ (min_lt x y) ∙ set_min (x % 2) (y % 2)
bit_and_lem x y (suc i) = ap (λ (n : ℕ). bit_at n (suc i)) (and_step x y) ∙ bit_suc _ _ i (min_lt x y) ∙ bit_and_lem (x / 2) (y / 2) i

-- 0 has no bit
pub bit_of_zero : (i : ℕ) → bit_at 0 i ≡ false
unfolding bit_at
bit_of_zero zero = refl
bit_of_zero (suc i) = bit_of_zero i

-- `x >> s`
pub bit_shr : (x s i : ℕ) → bit_at (x / 2 ^ s) i ≡ bit_at x (s + i)
unfolding bit_at
bit_shr x zero i = ap₂ bit_at (div-one x) (sym (zero-add i))
bit_shr x (suc s) i =
    ap (λ (n : ℕ). bit_at n i) (ap (λ (n : ℕ). x / 2 ^ n) (sym (one-add s)) ∙ sym (shr-shr x 1 s)) ∙ bit_shr (x / 2) s i ∙ ap (bit_at x) (sym (suc-add s i))

-- nothing above the width
pub bit_above : (k x i : ℕ) → x < 2 ^ k → k ≤ i → bit_at x i ≡ false
unfolding bit_at
bit_above zero x i h l = ap (λ (n : ℕ). bit_at n i) (omega arith) ∙ bit_of_zero i
bit_above (suc k) x zero h l = absurd (omega arith)
bit_above (suc k) x (suc i) h l = bit_above k (x / 2) i (omega arith) (omega arith)

-- a remainder from that of the half and the last digit
mod_suc : (k x : ℕ) → x % 2 ^ suc k ≡ (x / 2 % 2 ^ k) * 2 + x % 2
mod_suc k x = ap (λ (n : ℕ). x % 2 ^ n) (sym (add-one k)) ∙ mod-pow-add x k 1

-- `x mod 2 ^ k`
pub bit_mod : (k x i : ℕ) → i < k → bit_at (x % 2 ^ k) i ≡ bit_at x i
unfolding bit_at
bit_mod zero x i l = absurd (omega arith)
bit_mod (suc k) x zero l = ap (λ (n : ℕ). bit_at n zero) (mod_suc k x) ∙ bit_zero _ _ (mod-lt x (zero-lt-suc 1))
bit_mod (suc k) x (suc i) l = ap (λ (n : ℕ). bit_at n (suc i)) (mod_suc k x) ∙ bit_suc _ _ i (mod-lt x (zero-lt-suc 1)) ∙ bit_mod k (x / 2) i (omega arith)

-- `x << s` before it is cut to its width: the low bits, and the others
pub bit_mul_low : (x s i : ℕ) → i < s → bit_at (x * 2 ^ s) i ≡ false
unfolding bit_at
bit_mul_low x zero i l = absurd (omega arith)
bit_mul_low x (suc s) zero l = ap is_set (shifted_even x s)
bit_mul_low x (suc s) (suc i) l = ap (λ (n : ℕ). bit_at n i) (shifted_half x s) ∙ bit_mul_low x s i (omega arith)

-- a bit of a number moved up, above where it begins
pub bit_mul_high : (x s i : ℕ) → bit_at (x * 2 ^ s) (s + i) ≡ bit_at x i
unfolding bit_at
bit_mul_high x zero i = ap₂ bit_at (mul-one x) (zero-add i)
bit_mul_high x (suc s) i = ap (bit_at (x * 2 ^ suc s)) (suc-add s i) ∙ ap (λ (n : ℕ). bit_at n (s + i)) (shifted_half x s) ∙ bit_mul_high x s i

-- `x << s`
pub bit_shl : (k x s i : ℕ) → i < k → bit_at (x * 2 ^ s % 2 ^ k) i ≡ (leb s i && bit_at x (i - s))
bit_shl k x s i l = bit_mod k (x * 2 ^ s) i l ∙ go (below_or i s)
  where
    go : (i < s) ⊎ (s ≤ i) → bit_at (x * 2 ^ s) i ≡ (leb s i && bit_at x (i - s))
    go (inl h) = bit_mul_low x s i h ∙ simp (lt-leb s i h)
    go (inr h) = simp (le-leb s i h) (ap (bit_at (x * 2 ^ s)) (omega arith) ∙ bit_mul_high x s (i - s))

-- `!x`
pub bit_not : (k x i : ℕ) → x < 2 ^ k → i < k → bit_at (2 ^ k - 1 - x) i ≡ not (bit_at x i)
unfolding bit_at
bit_not zero x i h l = absurd (omega arith)
bit_not (suc k) x zero h l = go (x % 2) (mod-lt x (zero-lt-suc 1)) (omega arith)
  where
    go : (d : ℕ) → d < 2 → (2 ^ suc k - 1 - x) % 2 ≡ 1 - d → is_set ((2 ^ suc k - 1 - x) % 2) ≡ not (is_set d)
    go zero g e = ap is_set e
    go (suc zero) g e = ap is_set e
    go (suc (suc d)) g e = absurd (omega arith)
bit_not (suc k) x (suc i) h l = ap (λ (n : ℕ). bit_at n i) (omega arith) ∙ bit_not k (x / 2) i (omega arith) (omega arith)

-- every bit of the largest word is set
pub all_set : (i : ℕ) → i < 64 → bit_at 18446744073709551615 i ≡ true
all_set i l = bit_not 64 0 i (pow_pos 64) l ∙ ap not (bit_of_zero i)
