-- Document 02, point 2: a point's f64 is exactly pixel line × pitch / 64, with no rounding. An f64 holds the whole number pixel line ×
-- pitch, which is below 2 ^ 53 (the kit's `round_whole`); divided by 64 = 2 ^ 6 it has the same digits, and so the fraction is an f64's
-- value and the division rounds nothing (the kit's `round_exact`). Assumes nothing.
use Rattle.list_laws.proofs.Kit.{◌∙◌, ◌≡◌, ap, refl, sym, subst, false, true, true≢false, ◌*◌, ◌<◌, ◌^◌, ◌≤◌, ℕ, arith, mul-le-mul, lit≤}
use Rattle.list_laws.proofs.Kit.{pos}
use native.Mathlib.Nat.{mul_assoc, mul-pos, zero-lt-suc, lt_of_lt_of_le, le_of_lt}
use lib.Pow.{pow-add, pow_mono, shl_lt}
use lib.Ieee.{Float, nan, inf, fin, binary64, up, down, round, of_int, div}
use lib.Ieee.Exact.{HasValue, round_exact}
use lib.Ieee.Back.{round_whole}
use lib.Ieee.Fits.{down_pos}
use lib.Ieee.Scale.{round_same}
use Rattle.model.specs.Cut.{pitch_bound, millimetres}
use Rattle.model.specs.Lent.{column_bound}

-- 64 as an f64
pub sixty_four : of_int binary64 (pos 64) ≡ fin false 1 (pos 6)
unfolding of_int round
sixty_four = refl

-- a float whose value is the whole number n, divided by 64, is n / 64 rounded
divided : (x : Float) (n : ℕ) → HasValue x false n 1 → div binary64 x (fin false 1 (pos 6)) ≡ round binary64 false n 64
unfolding div
divided nan n h = absurd h
divided (inf s) n h = absurd h
divided (fin true m e) n h = absurd (true≢false h.0)
divided (fin false m e) n h =
    let is : m * up e * 1 ≡ n * down e = h.1 in
    round_same binary64 false (m * up e * 1) (1 * 64 * down e) n 64 (mul-pos (zero-lt-suc 63) (down_pos e)) (zero-lt-suc 63) (omega arith)

-- n / 64 is an f64's value
sixty_fourths : (n : ℕ) → n < 2 ^ 53 → HasValue (round binary64 false n 64) false n 64
sixty_fourths n h =
    round_exact binary64 false n 64 n 1068 (zero-lt-suc 63) h (lt_of_lt_of_le (shl_lt 53 1068 h) (pow_mono {i = 1121} {j = 2098} (lit≤ tt)))
    (ap (λ (x : ℕ). n * x) (pow-add 2 1068 6) ∙ sym (mul_assoc n (2 ^ 1068) (2 ^ 6)))

-- a pixel line in millimetres is n / 64 rounded
pub millimetres_round : (line pitch : ℕ) → line * pitch < 2 ^ 53 → millimetres line pitch ≡ round binary64 false (line * pitch) 64
unfolding millimetres of_int
millimetres_round line pitch h =
    ap (div binary64 (of_int binary64 (pos (line * pitch)))) sixty_four
    ∙ divided (round binary64 false (line * pitch) 1) (line * pitch) (round_whole binary64 false (line * pitch) (le_of_lt h))

-- and this is exact
pub millimetres_exact : (line pitch : ℕ) → line * pitch < 2 ^ 53 → HasValue (millimetres line pitch) false (line * pitch) 64
millimetres_exact line pitch h =
    subst (λ (x : Float). HasValue x false (line * pitch) 64) (sym (millimetres_round line pitch h)) (sixty_fourths (line * pitch) h)

-- within the request's limits
pub exact_within : (line pitch : ℕ) → line ≤ column_bound → pitch ≤ pitch_bound → HasValue (millimetres line pitch) false (line * pitch) 64
exact_within line pitch l p = millimetres_exact line pitch (let h = mul-le-mul l p in omega arith)
