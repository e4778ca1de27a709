-- Signed offsets by how far they go up and down. Assumes nothing.
use Rattle.list_laws.proofs.Kit.{◌≡◌, refl, Bool, cond, false, false≢true, true, true≢false, ◌-◌, ◌<◌, ◌^◌, ◌≤◌, min, suc, ℕ, arith, T, ltb, ◌-ℤ◌, nat_abs}
use Rattle.list_laws.proofs.Kit.{negsuc, pos, sub_ℕ, ℤ, leb-false, ltb-false, ltb-true, le_z, lt_z, mag, non_neg}
use mir.Syntax.{w32}
use mir.Val.{SFits, to_z}
use mir.ValLaws.{to_z-of_z}
use Rattle.model.specs.Overlap.{up, down}

-- ── up ──

pub up_none : (z : ℤ) → lt_z z (pos 0) ≡ true → 0 ≡ min (up z) 263
up_none (pos n) e = absurd (omega (arith, ltb-true n 0 e))
up_none (negsuc n) e = refl

pub up_far : (z : ℤ) → lt_z (pos 263) z ≡ true → 263 ≡ min (up z) 263
up_far (pos n) e = omega (arith, ltb-true 263 n e)
up_far (negsuc n) e = absurd (false≢true e)

pub up_near : (z : ℤ) → lt_z z (pos 0) ≡ false → lt_z (pos 263) z ≡ false → nat_abs z ≡ min (up z) 263
up_near (pos n) e f = omega (arith, ltb-false 263 n f)
up_near (negsuc n) e f = absurd (true≢false e)

pub not_negative_lem : (z : ℤ) → lt_z z (pos 0) ≡ false → T (non_neg z)
not_negative_lem (pos n) e = tt
not_negative_lem (negsuc n) e = absurd (true≢false e)

-- ── down ──

pub down_none : (z : ℤ) → le_z (pos 0) z ≡ true → 0 ≡ min (down z) 263
down_none (pos n) e = refl
down_none (negsuc n) e = absurd (false≢true e)

pub down_far : (z : ℤ) → lt_z z (negsuc 262) ≡ true → 263 ≡ min (down z) 263
down_far (pos n) e = absurd (false≢true e)
down_far (negsuc n) e = omega (arith, ltb-true 262 n e)

-- an offset between -263 and -1, taken away from 0
pub record NearOffset (z : ℤ) : Type 0 where
  pub fits : SFits w32 (pos 0 -ℤ z)
  pub not_negative : T (non_neg (pos 0 -ℤ z))
  pub is : nat_abs (pos 0 -ℤ z) ≡ min (down z) 263

pub down_near : (z : ℤ) → le_z (pos 0) z ≡ false → lt_z z (negsuc 262) ≡ false → NearOffset z
down_near (pos n) e f = absurd (omega (arith, leb-false 0 n e))
down_near (negsuc n) e f =
    let h : n ≤ 262 = ltb-false 262 n f in
    record { fits = record { sfits = omega arith }; not_negative = tt; is = omega arith }

-- ── biased ──

mag_by : (k : ℕ) (b : Bool) → ltb k 262 ≡ b → k < 1024 → mag (cond b (negsuc (262 - suc k)) (pos (k - 262))) < 2 ^ 31
mag_by k true e l = omega arith
mag_by k false e l = omega arith

-- a small number taken down by 262 fits
pub unbiased_fits : (k : ℕ) → k < 1024 → SFits w32 (sub_ℕ k 262)
unbiased_fits k l = record { sfits = mag_by k (ltb k 262) refl l }

-- a small number read as a signed one
pub small_signed : (k : ℕ) → k < 1024 → to_z w32 k ≡ pos k
small_signed k l = to_z-of_z w32 (pos k) (record { sfits = omega arith })
