-- The lowest set bit of a word: `trailing_zeros` is its place, and `x & (x - 1)` clears it. Assumes nothing.
use Rattle.list_laws.proofs.Kit.{◌∙◌, ◌≡◌, ap, refl, Bool, ◌&&◌, false, not, true, ◌⊎◌, inl, inr, ◌%◌, ◌-◌, ◌/◌, ◌<◌, ◌^◌, ◌≤◌, suc, zero, ℕ, arith}
use Rattle.list_laws.proofs.Kit.{eqb, eq-eqb, ne_eqb, ℕ_discrete}
use Rattle.list_laws.proofs.Numbers.{below_or}
use Prim.Native.Nat.{suc-le-suc}
use lib.Bits.{bit_and, and_le_r}
use lib.Count.{count_trailing_zeros, under}
use Rattle.bit_laws.specs.Bit.{is_set, bit_at}
use Rattle.bit_laws.proofs.Laws.{bit_and_lem}

-- a test asked twice
and_same : (b : Bool) → (b && b) ≡ (b && not false)
and_same true = refl
and_same false = refl

-- the count of trailing zeros of a word that is not 0 is a place in it
pub trailing_lt : (k x : ℕ) → 0 < x → x < 2 ^ k → count_trailing_zeros k x < k
unfolding count_trailing_zeros
trailing_lt zero x p h = absurd (omega arith)
trailing_lt (suc k) x p h = go (λ q. trailing_lt k (x / 2) q (omega arith)) (x % 2) refl
  where
    go : (0 < x / 2 → count_trailing_zeros k (x / 2) < k) → (d : ℕ) → x % 2 ≡ d → under d (count_trailing_zeros k (x / 2)) < suc k
    go f zero e = suc-le-suc (f (omega arith))
    go f (suc d) e = omega arith

-- that bit is set
pub trailing_set : (k x : ℕ) → 0 < x → x < 2 ^ k → bit_at x (count_trailing_zeros k x) ≡ true
unfolding count_trailing_zeros bit_at
trailing_set zero x p h = absurd (omega arith)
trailing_set (suc k) x p h = go (λ q. trailing_set k (x / 2) q (omega arith)) (x % 2) refl
  where
    go : (0 < x / 2 → bit_at (x / 2) (count_trailing_zeros k (x / 2)) ≡ true) → (d : ℕ) → x % 2 ≡ d → bit_at x (under d (count_trailing_zeros k (x / 2))) ≡ true
    go f zero e = f (omega arith)
    go f (suc d) e = ap is_set e

-- and none below it
pub trailing_clear : (k x i : ℕ) → i < count_trailing_zeros k x → bit_at x i ≡ false
unfolding count_trailing_zeros bit_at
trailing_clear zero x i l = absurd (omega arith)
trailing_clear (suc k) x i l = go (λ j. trailing_clear k (x / 2) j) (x % 2) refl i l
  where
    go : ((j : ℕ) → j < count_trailing_zeros k (x / 2) → bit_at (x / 2) j ≡ false) → (d : ℕ) → x % 2 ≡ d → (j : ℕ) → j < under d (count_trailing_zeros k (x / 2))
        → bit_at x j ≡ false
    go f zero e zero m = ap is_set e
    go f zero e (suc j) m = f j (omega arith)
    go f (suc d) e j m = absurd (omega arith)

-- one less clears that bit
pub pred_at : (k x : ℕ) → 0 < x → x < 2 ^ k → bit_at (x - 1) (count_trailing_zeros k x) ≡ false
unfolding count_trailing_zeros bit_at
pred_at zero x p h = absurd (omega arith)
pred_at (suc k) x p h = go (λ q. pred_at k (x / 2) q (omega arith)) (x % 2) refl
  where
    go : (0 < x / 2 → bit_at (x / 2 - 1) (count_trailing_zeros k (x / 2)) ≡ false) → (d : ℕ) → x % 2 ≡ d → bit_at (x - 1) (under d (count_trailing_zeros k (x / 2))) ≡ false
    go f zero e = let q : (x - 1) / 2 ≡ x / 2 - 1 = omega arith in ap (λ (n : ℕ). bit_at n (count_trailing_zeros k (x / 2))) q ∙ f (omega arith)
    go f (suc d) e = let q : (x - 1) % 2 ≡ 0 = omega arith in ap is_set q

-- and leaves those above it
pub pred_above : (k x i : ℕ) → 0 < x → x < 2 ^ k → count_trailing_zeros k x < i → bit_at (x - 1) i ≡ bit_at x i
unfolding count_trailing_zeros bit_at
pred_above zero x i p h l = absurd (omega arith)
pred_above (suc k) x i p h l = go (λ j q. pred_above k (x / 2) j q (omega arith)) (x % 2) refl i l
  where
    go : ((j : ℕ) → 0 < x / 2 → count_trailing_zeros k (x / 2) < j → bit_at (x / 2 - 1) j ≡ bit_at (x / 2) j)
        → (d : ℕ) → x % 2 ≡ d → (j : ℕ) → under d (count_trailing_zeros k (x / 2)) < j → bit_at (x - 1) j ≡ bit_at x j
    go f zero e zero m = absurd (omega arith)
    go f zero e (suc j) m = let q : (x - 1) / 2 ≡ x / 2 - 1 = omega arith in rw q (f j (omega arith) (omega arith))
    go f (suc d) e zero m = absurd (omega arith)
    go f (suc d) e (suc j) m = ap (λ (n : ℕ). bit_at n j) (omega arith)

-- `x & (x - 1)` clears the lowest set bit
pub bit_cleared : (k x i : ℕ) → 0 < x → x < 2 ^ k → bit_at (bit_and x (x - 1)) i ≡ (bit_at x i && not (eqb i (count_trailing_zeros k x)))
bit_cleared k x i p h = bit_and_lem x (x - 1) i ∙ go (below_or i (count_trailing_zeros k x)) (ℕ_discrete i (count_trailing_zeros k x))
  where
    go : (i < count_trailing_zeros k x) ⊎ (count_trailing_zeros k x ≤ i) → Dec (i ≡ count_trailing_zeros k x)
        → (bit_at x i && bit_at (x - 1) i) ≡ (bit_at x i && not (eqb i (count_trailing_zeros k x)))
    go (inl l) q = simp (trailing_clear k x i l)
    go (inr l) (yes e) = simp (eq-eqb i (count_trailing_zeros k x) e) (ap (λ (b : Bool). bit_at x i && b) (ap (bit_at (x - 1)) e ∙ pred_at k x p h))
    go (inr l) (no f) = simp (ne_eqb i (count_trailing_zeros k x) f) (ap (λ (b : Bool). bit_at x i && b) (pred_above k x i p h (omega arith)) ∙ and_same (bit_at x i))

-- it is less
pub cleared_lt : (x : ℕ) → 0 < x → bit_and x (x - 1) < x
cleared_lt x p = omega (arith, and_le_r x (x - 1))
