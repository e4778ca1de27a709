-- 64 bits from any place on, and the first bits of a word. Assumes nothing.
use Rattle.list_laws.proofs.Kit.{◌∙◌, ◌≡◌, ap, ap₂, refl, sym, Bool, ◌&&◌, ◌||◌, false, true, ◌⊎◌, inl, inr, List, ◌%◌, ◌*◌, ◌+◌, ◌-◌, ◌/◌, ◌<◌, ◌^◌, ◌≤◌}
use Rattle.list_laws.proofs.Kit.{ℕ, arith, mod-lt, mul-le-mul_left, mul-one, leb, le-leb, lt-leb, ltb, le-ltb, lt-ltb, get_or}
use Rattle.list_laws.proofs.Numbers.{below_or}
use lib.Bits.{bit_or, bit_and, or_lt, and_le_l}
use lib.Pow.{pow_pos, shr_le}
use Rattle.bit_laws.specs.Bit.{bit_at, bit_in}
use Rattle.bit_laws.proofs.Laws.{or_false, bit_or_lem, bit_and_lem, bit_shl, bit_shr, bit_above, all_set}
use Rattle.bit_laws.proofs.Strings.{bit_in_lem}
use Rattle.search_peel.specs.Peel.{BitsAt, LowBits, around, Inner}

-- what is left of it when it is shifted down
pub low_from : (count : ℕ) → count ≤ 64 → LowBits count (18446744073709551615 / 2 ^ (64 - count))
low_from count l = record { each = λ i. bit_shr 18446744073709551615 (64 - count) i ∙ go i (below_or i count) }
  where
    go : (i : ℕ) → (i < count) ⊎ (count ≤ i) → bit_at 18446744073709551615 (64 - count + i) ≡ ltb i count
    go i (inl h) = all_set (64 - count + i) (omega arith) ∙ sym (lt-ltb i count h)
    go i (inr h) = bit_above 64 18446744073709551615 (64 - count + i) (omega arith) (omega arith) ∙ sym (le-ltb i count h)

module _ (ws : List ℕ) (p : ℕ) (ha : get_or ws (p / 64) 0 < 18446744073709551616) where
  -- two words give the bits from any place on
  pub window : BitsAt ws p (bit_or (get_or ws (p / 64) 0 / 2 ^ (p % 64)) (get_or ws (p / 64 + 1) 0 * 2 ^ 1 % 2 ^ 64 * 2 ^ (63 - p % 64) % 2 ^ 64))
  window =
      record {
        small =
            or_lt 64 (get_or ws (p / 64) 0 / 2 ^ (p % 64)) (get_or ws (p / 64 + 1) 0 * 2 ^ 1 % 2 ^ 64 * 2 ^ (63 - p % 64) % 2 ^ 64)
            (omega (arith, shr_le (get_or ws (p / 64) 0) (p % 64))) (mod-lt (get_or ws (p / 64 + 1) 0 * 2 ^ 1 % 2 ^ 64 * 2 ^ (63 - p % 64)) (pow_pos 64));
        each = λ i l.
            bit_or_lem (get_or ws (p / 64) 0 / 2 ^ (p % 64)) (get_or ws (p / 64 + 1) 0 * 2 ^ 1 % 2 ^ 64 * 2 ^ (63 - p % 64) % 2 ^ 64) i
            ∙ ap₂ ◌||◌ (bit_shr (get_or ws (p / 64) 0) (p % 64) i) (bit_shl 64 (get_or ws (p / 64 + 1) 0 * 2 ^ 1 % 2 ^ 64) (63 - p % 64) i l)
            ∙ go i l (below_or (p % 64 + i) 64);
      }
    where
      go : (i : ℕ) → i < 64 → (p % 64 + i < 64) ⊎ (64 ≤ p % 64 + i)
          → (bit_at (get_or ws (p / 64) 0) (p % 64 + i) || (leb (63 - p % 64) i && bit_at (get_or ws (p / 64 + 1) 0 * 2 ^ 1 % 2 ^ 64) (i - (63 - p % 64))))
          ≡ bit_in ws (p + i)
      go i l (inl m) =
          ap (λ (b : Bool). bit_at (get_or ws (p / 64) 0) (p % 64 + i) || b) (none (below_or i (63 - p % 64)))
          ∙ or_false _ ∙ sym (bit_in_lem ws (p / 64) (p % 64 + i) (p + i) m (omega arith))
        where
          none : (i < 63 - p % 64) ⊎ (63 - p % 64 ≤ i) → (leb (63 - p % 64) i && bit_at (get_or ws (p / 64 + 1) 0 * 2 ^ 1 % 2 ^ 64) (i - (63 - p % 64))) ≡ false
          none (inl k) = ap (λ (b : Bool). b && bit_at (get_or ws (p / 64 + 1) 0 * 2 ^ 1 % 2 ^ 64) (i - (63 - p % 64))) (lt-leb (63 - p % 64) i k)
          none (inr k) =
              let e : i - (63 - p % 64) ≡ 0 = omega arith in
              ap₂ (λ (b : Bool) (n : ℕ). b && bit_at (get_or ws (p / 64 + 1) 0 * 2 ^ 1 % 2 ^ 64) n) (le-leb (63 - p % 64) i k) e
              ∙ bit_shl 64 (get_or ws (p / 64 + 1) 0) 1 0 (omega arith)
      go i l (inr m) =
          let e : i - (63 - p % 64) - 1 ≡ p % 64 + i - 64 = omega arith in
          simp (bit_above 64 (get_or ws (p / 64) 0) (p % 64 + i) ha m, le-leb (63 - p % 64) i (omega arith))
          (bit_shl 64 (get_or ws (p / 64 + 1) 0) 1 (i - (63 - p % 64)) (omega arith)
          ∙ ap₂ (λ (b : Bool) (n : ℕ). b && bit_at (get_or ws (p / 64 + 1) 0) n) (le-leb 1 (i - (63 - p % 64)) (omega arith)) e
          ∙ sym (bit_in_lem ws (p / 64 + 1) (p % 64 + i - 64) (p + i) (omega arith) (omega arith)))

-- the first of five taken by itself
and_four : (v a b c d : Bool) → ((((v && a) && b) && c) && d) ≡ (v && (((a && b) && c) && d))
and_four true a b c d = refl
and_four false a b c d = refl

-- a word and four windows
pub inner_from : (ws : List ℕ) (w p r v a b c d : ℕ) → r ≤ p → r * w ≤ p → BitsAt ws (p + r) a → BitsAt ws (p - r) b → BitsAt ws (p + r * w) c
    → BitsAt ws (p - r * w) d
    → Inner ws w p r v (bit_and (bit_and (bit_and (bit_and v a) b) c) d)
unfolding around
inner_from ws w p r v a b c d lr lf ha hb hc hd =
    record {
      below = omega (arith, and_le_l (bit_and (bit_and (bit_and v a) b) c) d, and_le_l (bit_and (bit_and v a) b) c, and_le_l (bit_and v a) b, and_le_l v a);
      each = λ i l.
          let ea : p + r + i ≡ p + i + r = omega arith in
          let eb : p - r + i ≡ p + i - r = omega arith in
          let ec : p + r * w + i ≡ p + i + r * w = omega arith in
          let ed : p - r * w + i ≡ p + i - r * w = omega arith in
          bit_and_lem (bit_and (bit_and (bit_and v a) b) c) d i
          ∙ ap (λ (x : Bool). x && bit_at d i)
          (bit_and_lem (bit_and (bit_and v a) b) c i
          ∙ ap (λ (x : Bool). x && bit_at c i) (bit_and_lem (bit_and v a) b i ∙ ap (λ (x : Bool). x && bit_at b i) (bit_and_lem v a i)))
          ∙ and_four (bit_at v i) (bit_at a i) (bit_at b i) (bit_at c i) (bit_at d i)
          ∙ ap (λ (x : Bool). bit_at v i && x)
          (ap₂ ◌&&◌ (ap₂ ◌&&◌ (ap₂ ◌&&◌ (ha.each i l ∙ ap (bit_in ws) ea) (hb.each i l ∙ ap (bit_in ws) eb)) (hc.each i l ∙ ap (bit_in ws) ec))
          (hd.each i l ∙ ap (bit_in ws) ed));
    }

-- a row is no shorter than a step
pub far_least : (r w : ℕ) → 1 ≤ w → r ≤ r * w
far_least r w l = omega (arith, mul-le-mul_left r l, mul-one r)
