-- The pieces that the mover can meet, as the bits of a word: how the word is made. Assumes nothing.
use Rattle.list_laws.proofs.Kit.{◌∙◌, ◌≡◌, ap, refl, subst, sym, Bool, ◌&&◌, ◌||◌, false, true, ◌⊎◌, inl, inr, ◌%◌, ◌*◌, ◌+◌, ◌-◌, ◌<◌, ◌^◌, ◌≤◌}
use Rattle.list_laws.proofs.Kit.{suc, zero, ℕ, arith, mod-lt, leb, le-leb}
use Rattle.list_laws.proofs.Numbers.{below_or}
use Rattle.list_laws.proofs.Tests.{and_right, clash, or_cases, or_neither}
use lib.Bits.{bit_or, or_lt}
use lib.Pow.{pow_pos}
use Rattle.model.specs.Layout.{Job, Layout}
use Rattle.bit_laws.specs.Bit.{bit_at}
use Rattle.bit_laws.proofs.Laws.{bit_or_lem, bit_shl, bit_above, bit_of_zero}
use Rattle.search_tracks.specs.declared.Mover.{Mover}
use Rattle.search_beside.specs.Reading.{Apart, NearTold}

-- no piece is asked yet
pub near_none : (j : Job) (v : Layout) (m : Mover) → NearTold j v m 0 0
near_none j v m = record { small = omega arith; few = λ k e. absurd (clash e (bit_of_zero k)); apart = λ k l. absurd (omega arith) }

-- a bit of 1 or 0
one_bit : (b : ℕ) → b < 2 → bit_at b 0 ≡ false → b ≡ 0
unfolding bit_at
one_bit zero l e = refl
one_bit (suc zero) l e = absurd (clash refl e)
one_bit (suc (suc b)) l e = absurd (omega arith)

module _ (j : Job) (v : Layout) (m : Mover) (k near b : ℕ) (few : k < 64) (bit : b < 2) (h : NearTold j v m k near) where
  -- a bit after one more piece
  more_bit : (i : ℕ) → i < 64 → bit_at (bit_or near (b * 2 ^ k % 2 ^ 64)) i ≡ (bit_at near i || (leb k i && bit_at b (i - k)))
  more_bit i l = bit_or_lem near (b * 2 ^ k % 2 ^ 64) i ∙ ap (λ (x : Bool). bit_at near i || x) (bit_shl 64 b k i l)

  -- the word stays a word
  more_small : bit_or near (b * 2 ^ k % 2 ^ 64) < 18446744073709551616
  more_small = or_lt 64 near (b * 2 ^ k % 2 ^ 64) h.small (mod-lt (b * 2 ^ k) (pow_pos 64))

  -- a set bit is that of a piece asked
  more_few : (i : ℕ) → bit_at (bit_or near (b * 2 ^ k % 2 ^ 64)) i ≡ true → i < k + 1
  more_few i e = by_word (below_or i 64)
    where
      by_old : (bit_at near i ≡ true) ⊎ ((leb k i && bit_at b (i - k)) ≡ true) → i < k + 1
      by_old (inl x) = let l = h.few i x in omega arith
      by_old (inr x) = by_place (below_or k i)
        where
          by_place : (k < i) ⊎ (i ≤ k) → i < k + 1
          by_place (inl l) = absurd (clash (and_right (leb k i) (bit_at b (i - k)) x) (bit_above 1 b (i - k) bit (omega arith)))
          by_place (inr l) = omega arith

      by_word : (i < 64) ⊎ (64 ≤ i) → i < k + 1
      by_word (inl l) = by_old (or_cases (bit_at near i) (leb k i && bit_at b (i - k)) (sym (more_bit i l) ∙ e))
      by_word (inr l) = absurd (clash e (bit_above 64 (bit_or near (b * 2 ^ k % 2 ^ 64)) i more_small l))

  -- a clear one is that of a piece apart
  more_apart : (b ≡ 0 → Apart j v m k) → (i : ℕ) → i < k + 1 → bit_at (bit_or near (b * 2 ^ k % 2 ^ 64)) i ≡ false → Apart j v m i
  more_apart apart i l e =
      let n = or_neither (bit_at near i) (leb k i && bit_at b (i - k)) (sym (more_bit i (omega arith)) ∙ e) in
      by_place n (below_or i k)
    where
      by_place : (bit_at near i ≡ false) × ((leb k i && bit_at b (i - k)) ≡ false) → (i < k) ⊎ (k ≤ i) → Apart j v m i
      by_place n (inl x) = h.apart i x n.0
      by_place n (inr x) =
          let z : i ≡ k = omega arith in
          let d : i - k ≡ 0 = omega arith in
          let c : bit_at b 0 ≡ false = ap (bit_at b) (sym d) ∙ ap (λ (t : Bool). t && bit_at b (i - k)) (sym (le-leb k i x)) ∙ n.1 in
          subst (Apart j v m) (sym z) (apart (one_bit b bit c))

  -- one more piece
  pub near_more : (b ≡ 0 → Apart j v m k) → NearTold j v m (k + 1) (bit_or near (b * 2 ^ k % 2 ^ 64))
  near_more apart = record { small = more_small; few = more_few; apart = more_apart apart }
