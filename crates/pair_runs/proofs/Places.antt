-- The next place of a list of words whose bit is set, or clear. Assumes nothing.
use Rattle.list_laws.proofs.Kit.{◌∙◌, ◌≡◌, ◌≢◌, ap, refl, sym, Bool, false, not, not-false, not-true, true, ⊎_elim, List, ◌%◌, ◌*◌, ◌+◌, ◌-◌, ◌/◌, ◌<◌}
use Rattle.list_laws.proofs.Kit.{◌^◌, ◌≤◌, min, ℕ, arith, get_or}
use Rattle.list_laws.proofs.Numbers.{below_or}
use Rattle.list_laws.proofs.Tests.{clash}
use lib.Count.{count_trailing_zeros}
use lib.Pow.{shr_le}
use Rattle.bit_laws.specs.Bit.{bit_at, bit_in}
use Rattle.bit_laws.proofs.Laws.{bit_not, bit_shr, bit_above, bit_of_zero}
use Rattle.bit_laws.proofs.Lowest.{trailing_set, trailing_clear}
use Rattle.bit_laws.proofs.Strings.{bit_in_lem}
use Rattle.pair_runs.specs.Runs.{offset_count, Sought, NextPlace}

-- set bits are looked for in the word itself
pub sought_set : (word : ℕ) (bit : Bool) → bit ≡ true → word < 18446744073709551616 → Sought word bit word
sought_set word true e l = record { small = l; set = λ i b h. h; clear = λ i b h. h }
sought_set word false e l = absurd (clash e refl)

-- clear ones in its opposite
pub sought_clear : (word : ℕ) (bit : Bool) → bit ≡ false → word < 18446744073709551616 → Sought word bit (18446744073709551615 - word)
sought_clear word true e l = absurd (clash refl e)
sought_clear word false e l =
    record {
      small = omega arith;
      set = λ i b h. not-true (bit_at word i) (sym (bit_not 64 word i l b) ∙ h);
      clear = λ i b h. not-false (bit_at word i) (sym (bit_not 64 word i l b) ∙ h);
    }

-- no place from k on and before p has the bit
pub record NoneUpTo (marks : List ℕ) (bit : Bool) (k p : ℕ) : Type 0 where
  pub low : k ≤ p
  pub before : (m : ℕ) → k ≤ m → m < p → bit_in marks m ≡ not bit

-- what is left of the word of place p from that place on
module _ (marks : List ℕ) (bit : Bool) (p word left : ℕ) (w : Sought (get_or marks (p / 64) 0) bit word) (d : left ≡ word / 2 ^ (p % 64)) where
  -- its bit i is bit p % 64 + i of the word
  left_bit : (i : ℕ) → bit_at left i ≡ bit_at word (p % 64 + i)
  left_bit i = ap (λ (n : ℕ). bit_at n i) d ∙ bit_shr word (p % 64) i

  -- a clear one tells that place p + i is not looked for
  left_clear : (i m : ℕ) → m ≡ p + i → p % 64 + i < 64 → bit_at left i ≡ false → bit_in marks m ≡ not bit
  left_clear i m f l e = bit_in_lem marks (p / 64) (p % 64 + i) m l (omega arith) ∙ w.clear (p % 64 + i) l (sym (left_bit i) ∙ e)

  -- a set one that it is
  left_set : (i m : ℕ) → m ≡ p + i → p % 64 + i < 64 → bit_at left i ≡ true → bit_in marks m ≡ bit
  left_set i m f l e = bit_in_lem marks (p / 64) (p % 64 + i) m l (omega arith) ∙ w.set (p % 64 + i) l (sym (left_bit i) ∙ e)

  module _ (k : ℕ) (g : NoneUpTo marks bit k p) where
    -- nothing is left: the rest of the word is passed
    pub word_passed : left ≡ 0 → NoneUpTo marks bit k ((p / 64 + 1) * 64)
    word_passed e =
        record {
          low = omega (arith, g.low);
          before = λ m a b.
              ⊎_elim (g.before m a)
              (λ (h : p ≤ m). left_clear (m - p) m (omega arith) (omega arith) (ap (λ (n : ℕ). bit_at n (m - p)) e ∙ bit_of_zero (m - p)))
              (below_or m p);
        }

    -- something is left: its lowest set bit is the next place
    pub place_found : left ≢ 0 → p < offset_count → (r : ℕ) → r ≡ min (p + count_trailing_zeros 64 left) offset_count → NextPlace marks bit k r
    place_found n l r e =
        let set : bit_at left (count_trailing_zeros 64 left) ≡ true =
        trailing_set 64 left (omega arith) (omega (arith, w.small, shr_le word (p % 64))) in
        let inside : p % 64 + count_trailing_zeros 64 left < 64 =
        ⊎_elim (λ h. h) (λ h. absurd (clash set (left_bit (count_trailing_zeros 64 left) ∙ bit_above 64 word (p % 64 + count_trailing_zeros 64 left) w.small h)))
        (below_or (p % 64 + count_trailing_zeros 64 left) 64) in
        record {
          low = omega (arith, g.low);
          high = omega arith;
          before = λ m a b.
              ⊎_elim (g.before m a)
              (λ (h : p ≤ m). left_clear (m - p) m (omega arith) (omega arith) (trailing_clear 64 left (m - p) (omega arith)))
              (below_or m p);
          here = λ b. left_set (count_trailing_zeros 64 left) r (omega arith) inside set;
        }

-- all places are passed
pub none_found : (marks : List ℕ) (bit : Bool) (k p : ℕ) → k ≤ offset_count → offset_count ≤ p → NoneUpTo marks bit k p → NextPlace marks bit k offset_count
none_found marks bit k p a l g =
    record { low = a; high = omega arith; before = λ m b c. g.before m b (omega arith); here = λ b. absurd (omega arith) }
