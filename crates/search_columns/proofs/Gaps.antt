-- The nearest clear bit of a row, to both sides of a place. Assumes nothing.
use Rattle.list_laws.proofs.Kit.{◌∙◌, ◌≡◌, ap, refl, subst, sym, Bool, ◌&&◌, false, not, true, ◌⊎◌, inl, inr, List}
use Rattle.list_laws.proofs.Kit.{◌%◌, ◌*◌, ◌+◌, ◌-◌, ◌<◌, ◌^◌, ◌≤◌, min, ℕ, ◌/◌, arith}
use Rattle.list_laws.proofs.Numbers.{below_or}
use Rattle.list_laws.proofs.Tests.{and_both, clash, first_fails, second_fails}
use lib.Count.{count_trailing_zeros, count_leading_zeros, leading_le}
use Rattle.bit_laws.specs.Bit.{bit_at, bit_in}
use Rattle.bit_laws.proofs.Lowest.{trailing_set, trailing_clear}
use Rattle.bit_laws.proofs.Highest.{leading_set, leading_clear}
use Rattle.search_columns.specs.Column.{FirstClear, FirstWithin, beside, ClearAbove, ClearBelow, GapWithin, Walled}
use Rattle.list_laws.proofs.Kit.{mod-lt, le-leb, by_contra}
use Rattle.list_laws.proofs.Tests.{said_no, said_yes}
use lib.Pow.{pow_pos, shr_le}
use Rattle.bit_laws.proofs.Laws.{bit_not, bit_shl, bit_shr}
use Rattle.search_peel.specs.Peel.{BitsAt}

-- 64 bits from p - s on, turned over and moved to the top: the bit t below p
below_bit : (ws : List ℕ) (p s b t : ℕ) → s ≤ p → s ≤ 63 → t ≤ s → BitsAt ws (p - s) b
    → bit_at ((2 ^ 64 - 1 - b) * 2 ^ (63 - s) % 2 ^ 64) (63 - t) ≡ not (bit_in ws (p - t))
below_bit ws p s b t k m l h =
    let i : 63 - t - (63 - s) ≡ s - t = omega arith in
    let j : p - s + (s - t) ≡ p - t = omega arith in
    bit_shl 64 (2 ^ 64 - 1 - b) (63 - s) (63 - t) (omega arith)
    ∙ ap (λ (q : Bool). q && bit_at (2 ^ 64 - 1 - b) (63 - t - (63 - s))) (le-leb (63 - s) (63 - t) (omega arith))
    ∙ ap (bit_at (2 ^ 64 - 1 - b)) i
    ∙ bit_not 64 b (s - t) h.small (omega arith)
    ∙ ap not (h.each (s - t) (omega arith) ∙ ap (bit_in ws) j)

-- as many of them as there are, at most 64
pub below_from : (ws : List ℕ) (p s b : ℕ) → s ≡ min p 63 → BitsAt ws (p - s) b → ClearBelow ws p 64 ((2 ^ 64 - 1 - b) * 2 ^ (63 - s) % 2 ^ 64)
below_from ws p s b e h =
    record {
      small = mod-lt ((2 ^ 64 - 1 - b) * 2 ^ (63 - s)) (pow_pos 64);
      each = λ t l m. below_bit ws p s b t (omega arith) (omega arith) (omega arith) h;
    }

-- 64 bits from p on, turned over
pub above_from : (ws : List ℕ) (p a : ℕ) → BitsAt ws p a → ClearAbove ws p 64 (2 ^ 64 - 1 - a)
above_from ws p a h =
    record {
      small = omega arith;
      each = λ t l. bit_not 64 a t h.small l ∙ ap not (h.each t l);
    }

-- half of the bits around p, turned over: those below
half_below : (ws : List ℕ) (p b : ℕ) → 32 ≤ p → BitsAt ws (p - 32) b → ClearBelow ws p 32 ((2 ^ 64 - 1 - b) * 2 ^ 31 % 2 ^ 64)
half_below ws p b l h =
    record {
      small = mod-lt ((2 ^ 64 - 1 - b) * 2 ^ 31) (pow_pos 64);
      each = λ t k m. below_bit ws p 32 b t l (omega arith) (omega arith) h;
    }

-- and those above
half_above : (ws : List ℕ) (p b : ℕ) → 32 ≤ p → BitsAt ws (p - 32) b → ClearAbove ws p 32 ((2 ^ 64 - 1 - b) / 2 ^ 32)
half_above ws p b l h =
    record {
      small = omega (arith, shr_le (2 ^ 64 - 1 - b) 32);
      each = λ t m.
          let j : p - 32 + (32 + t) ≡ p + t = omega arith in
          bit_shr (2 ^ 64 - 1 - b) 32 t ∙ bit_not 64 b (32 + t) h.small (omega arith) ∙ ap not (h.each (32 + t) (omega arith) ∙ ap (bit_in ws) j);
    }

module _ (ws : List ℕ) (p n size a b : ℕ) (s : size ≤ 64) (ha : ClearAbove ws (p + n) size a) (hb : ClearBelow ws (p - n) size b) where
  -- the places before the nearest clear bit above are set
  above_set : (i : ℕ) → i < size → i < count_trailing_zeros 64 a → bit_in ws (p + n + i) ≡ true
  above_set i m l = said_yes refl (sym (ha.each i m) ∙ trailing_clear 64 a i l)

  -- so are those below
  below_set : (i : ℕ) → i ≤ p - n → i < size → i < count_leading_zeros 64 b → bit_in ws (p - n - i) ≡ true
  below_set i k m l = said_yes refl (sym (hb.each i k m) ∙ leading_clear 64 b i hb.small l)

  -- the nearest clear bit above
  above_clear : count_trailing_zeros 64 a < size → bit_in ws (p + n + count_trailing_zeros 64 a) ≡ false
  unfolding count_trailing_zeros
  above_clear l = go (below_or 0 a)
    where
      go : (0 < a) ⊎ (a ≤ 0) → bit_in ws (p + n + count_trailing_zeros 64 a) ≡ false
      go (inl h) = said_no refl (sym (ha.each (count_trailing_zeros 64 a) l) ∙ trailing_set 64 a h ha.small)
      go (inr h) =
          let e : a ≡ 0 = omega arith in
          let z : count_trailing_zeros 64 a ≡ 64 = ap (count_trailing_zeros 64) e in
          absurd (omega arith)

  -- and the one below
  below_clear : count_leading_zeros 64 b < size → count_leading_zeros 64 b ≤ p - n → bit_in ws (p - n - count_leading_zeros 64 b) ≡ false
  unfolding count_leading_zeros
  below_clear l k = go (below_or 0 b)
    where
      go : (0 < b) ⊎ (b ≤ 0) → bit_in ws (p - n - count_leading_zeros 64 b) ≡ false
      go (inl h) = said_no refl (sym (hb.each (count_leading_zeros 64 b) k l) ∙ (leading_set 64 b h hb.small).1)
      go (inr h) =
          let e : b ≡ 0 = omega arith in
          let z : count_leading_zeros 64 b ≡ 64 = ap (count_leading_zeros 64) e in
          absurd (omega arith)

  -- the nearer of the two
  pub within_from : (k : ℕ) → n ≤ p → k ≡ min (count_trailing_zeros 64 a) (count_leading_zeros 64 b) → GapWithin ws p n size k
  unfolding beside
  within_from k l e =
      record {
        few = omega (arith, leading_le 64 b);
        before = λ i m f o.
            let x : p + (n + i) ≡ p + n + i = omega arith in
            let y : p - (n + i) ≡ p - n - i = omega arith in
            and_both (ap (bit_in ws) x ∙ above_set i f (omega arith)) (ap (bit_in ws) y ∙ below_set i (omega arith) f (omega arith));
        here = λ m o. go m o (below_or (count_leading_zeros 64 b) (count_trailing_zeros 64 a));
      }
    where
      go : k < size → n + k ≤ p → (count_leading_zeros 64 b < count_trailing_zeros 64 a) ⊎ (count_trailing_zeros 64 a ≤ count_leading_zeros 64 b)
          → (bit_in ws (p + (n + k)) && bit_in ws (p - (n + k))) ≡ false
      go m o (inl h) =
          let y : p - (n + k) ≡ p - n - count_leading_zeros 64 b = omega arith in
          second_fails (bit_in ws (p + (n + k))) (ap (bit_in ws) y ∙ below_clear (omega arith) (omega arith))
      go m o (inr h) =
          let x : p + (n + k) ≡ p + n + count_trailing_zeros 64 a = omega arith in
          first_fails (bit_in ws (p - (n + k))) (ap (bit_in ws) x ∙ above_clear (omega arith))

-- both halves of one word around p
pub near_from : (ws : List ℕ) (p b k : ℕ) → 32 ≤ p → BitsAt ws (p - 32) b
    → k ≡ min (count_trailing_zeros 64 ((2 ^ 64 - 1 - b) / 2 ^ 32)) (count_leading_zeros 64 ((2 ^ 64 - 1 - b) * 2 ^ 31 % 2 ^ 64)) → GapWithin ws p 0 32 k
near_from ws p b k l h e =
    let x : p ≡ p + 0 = omega arith in
    let y : p ≡ p - 0 = omega arith in
    within_from ws p 0 32 ((2 ^ 64 - 1 - b) / 2 ^ 32) ((2 ^ 64 - 1 - b) * 2 ^ 31 % 2 ^ 64) (omega arith)
    (subst (λ (q : ℕ). ClearAbove ws q 32 ((2 ^ 64 - 1 - b) / 2 ^ 32)) x (half_above ws p b l h))
    (subst (λ (q : ℕ). ClearBelow ws q 32 ((2 ^ 64 - 1 - b) * 2 ^ 31 % 2 ^ 64)) y (half_below ws p b l h)) k (omega arith) e

-- ── word by word ──

-- all nearer places are set, the next word is read, and the reach is not passed
pub record GapGoing (ws : List ℕ) (p : ℕ) (h : Walled ws p) (n k : ℕ) : Type 0 where
  pub set : (t : ℕ) → t < n → beside ws p t ≡ true
  pub within : GapWithin ws p n 64 k
  pub near : n + k ≤ h.reach

module _ (ws : List ℕ) (p : ℕ) (h : Walled ws p) where
  -- a word that is read does not pass the reach
  no_farther : (n k : ℕ) → n ≤ h.reach → GapWithin ws p n 64 k → n + k ≤ h.reach
  no_farther n k l g =
      by_contra (n + k) h.reach
      (λ m.
      let e : n + (h.reach - n) ≡ h.reach = omega arith in
      clash (g.before (h.reach - n) (omega arith) (omega (arith, g.few)) (omega (arith, h.low))) (ap (beside ws p) e ∙ h.clear))

  -- the first word
  pub gap_start : (k : ℕ) → GapWithin ws p 0 64 k → GapGoing ws p h 0 k
  gap_start k g = record { set = λ t l. absurd (omega arith); within = g; near = no_farther 0 k (omega arith) g }

  -- the places up to the end of the word
  set_on : (n k t : ℕ) → GapGoing ws p h n k → t < n + k → beside ws p t ≡ true
  set_on n k t g l = go (below_or t n)
    where
      go : (t < n) ⊎ (n ≤ t) → beside ws p t ≡ true
      go (inl m) = g.set t m
      go (inr m) =
          let e : n + (t - n) ≡ t = omega arith in
          ap (beside ws p) (sym e) ∙ g.within.before (t - n) (omega arith) (omega (arith, g.within.few)) (omega (arith, g.near, h.low))

  -- one more word
  pub gap_next : (n k : ℕ) → GapGoing ws p h n 64 → GapWithin ws p (n + 64) 64 k → GapGoing ws p h (n + 64) k
  gap_next n k g q =
      record { set = λ t l. set_on n 64 t g l; within = q; near = no_farther (n + 64) k g.near q }

  -- the word with a clear bit
  pub gap_end : (n k : ℕ) → GapGoing ws p h n k → k < 64 → FirstClear (beside ws p) (n + k)
  gap_end n k g l = let m = g.near in record { before = λ t b. set_on n k t g b; here = g.within.here l (omega (arith, h.low)) }

-- ── no farther than a bound ──

-- the least number that fails, or the bound
pub far_within : (f : ℕ → Bool) (bound n : ℕ) → FirstClear f n → FirstWithin f bound (min n bound)
far_within f bound n c =
    record {
      few = omega arith;
      before = λ t l. c.before t (omega arith);
      here = λ l. let e : min n bound ≡ n = omega arith in ap f e ∙ c.here;
    }

-- where it is below the half that was read
pub near_within : (ws : List ℕ) (p bound k r : ℕ) → 32 ≤ p → GapWithin ws p 0 32 k → r ≡ min k bound → r < 32 → FirstWithin (beside ws p) bound r
near_within ws p bound k r l g e m =
    record {
      few = omega arith;
      before = λ t b. let z : t ≡ 0 + t = omega arith in ap (beside ws p) z ∙ g.before t (omega arith) (omega arith) (omega arith);
      here = λ b. let z : r ≡ 0 + k = omega arith in ap (beside ws p) z ∙ g.here (omega arith) (omega arith);
    }
