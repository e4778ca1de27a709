-- An interval of places marked in a list of words, word by word. Assumes nothing.
use Rattle.list_laws.proofs.Kit.{◌∙◌, ◌≡◌, ap, ap₂, sym, ◌&&◌, ◌||◌, true, ◌⊎◌, inl, inr, ⊎_elim, List, ◌%◌, ◌*◌, ◌+◌, ◌-◌, ◌/◌}
use Rattle.list_laws.proofs.Kit.{◌<◌, ◌^◌, ◌≤◌, max, min, ℕ, arith, leb, le-leb, leb-true, lt-leb, ltb, le-ltb, lt-ltb, ltb-true, get_or, length, length-set, set}
use Rattle.list_laws.proofs.Kit.{get_or-set_other, get_or-set_same}
use Rattle.list_laws.proofs.Numbers.{below_or}
use Rattle.list_laws.proofs.Tests.{and_left, and_right, and_both, or_cases, or_left, or_right, clash, first_fails}
use lib.Bits.{bit_or, bit_and}
use Rattle.bit_laws.specs.Bit.{bit_at, bit_in}
use Rattle.bit_laws.proofs.Laws.{bit_or_lem, bit_and_lem, bit_shl, bit_shr, bit_above, all_set}
use Rattle.bit_laws.proofs.Strings.{bit_in_lem, bit_past, bit_alike}
use Rattle.pair_nofit.specs.Marks.{in_interval, WordBits, IntervalMarked}

-- ── one word ──

module _ (low high start first end : ℕ) (a : low < start + 64) (b : start < high) (f : first ≡ max low start) (e : end ≡ min high (start + 64)) where
  -- what is shifted up begins with the interval
  begins : (i : ℕ) → i < 64 → bit_at (18446744073709551615 * 2 ^ (first - start) % 2 ^ 64) i ≡ leb low (start + i)
  begins i l = bit_shl 64 18446744073709551615 (first - start) i l ∙ go (below_or (start + i) low)
    where
      go : (start + i < low) ⊎ (low ≤ start + i) → (leb (first - start) i && bit_at 18446744073709551615 (i - (first - start))) ≡ leb low (start + i)
      go (inl h) = first_fails _ (lt-leb (first - start) i (omega arith)) ∙ sym (lt-leb low (start + i) h)
      go (inr h) = and_both (le-leb (first - start) i (omega arith)) (all_set (i - (first - start)) (omega arith)) ∙ sym (le-leb low (start + i) h)

  -- what is shifted down ends with it
  ends : (i : ℕ) → i < 64 → bit_at (18446744073709551615 / 2 ^ (start + 64 - end)) i ≡ ltb (start + i) high
  ends i l = bit_shr 18446744073709551615 (start + 64 - end) i ∙ go (below_or (start + i) high)
    where
      go : (start + i < high) ⊎ (high ≤ start + i) → bit_at 18446744073709551615 (start + 64 - end + i) ≡ ltb (start + i) high
      go (inl h) = all_set (start + 64 - end + i) (omega arith) ∙ sym (lt-ltb (start + i) high h)
      go (inr h) = bit_above 64 18446744073709551615 (start + 64 - end + i) (omega arith) (omega arith) ∙ sym (le-ltb (start + i) high h)

  -- the bits that both leave are the interval's
  pub word_from : WordBits low high start (bit_and (18446744073709551615 * 2 ^ (first - start) % 2 ^ 64) (18446744073709551615 / 2 ^ (start + 64 - end)))
  word_from =
      record {
        each = λ i l.
            bit_and_lem (18446744073709551615 * 2 ^ (first - start) % 2 ^ 64) (18446744073709551615 / 2 ^ (start + 64 - end)) i
            ∙ ap₂ ◌&&◌ (begins i l) (ends i l);
      }

-- ── all words ──

-- the places of the words below j are done, the others as they were
pub record Marking (low high : ℕ) (before marks : List ℕ) (j : ℕ) : Type 0 where
  pub from : low / 64 ≤ j
  pub same : length marks ≡ length before
  pub done : (m : ℕ) → m < j * 64 → bit_in marks m ≡ (bit_in before m || in_interval low high m)
  pub rest : (m : ℕ) → j * 64 ≤ m → bit_in marks m ≡ bit_in before m

module _ (low high : ℕ) (before : List ℕ) where
  -- one more word
  pub marking_step : (marks after : List ℕ) (j word : ℕ) → j < length marks → WordBits low high (j * 64) word
      → after ≡ set marks j (bit_or (get_or marks j 0) word) → Marking low high before marks j → Marking low high before after (j + 1)
  marking_step marks after j word l w f g =
      record {
        from = omega (arith, g.from);
        same = ap length f ∙ length-set marks j _ ∙ g.same;
        done = λ m b. ⊎_elim (λ h. others m (omega arith) ∙ g.done m h) (own m b) (below_or m (j * 64));
        rest = λ m b. others m (omega arith) ∙ g.rest m (omega arith);
      }
    where
      -- the other words are as they were
      others : (m : ℕ) → (m / 64 ≡ j → ⊥) → bit_in after m ≡ bit_in marks m
      others m n = bit_alike after marks m (ap (λ (z : List ℕ). get_or z (m / 64) 0) f ∙ get_or-set_other marks j (m / 64) _ 0 n)

      -- its own places
      own : (m : ℕ) → m < (j + 1) * 64 → j * 64 ≤ m → bit_in after m ≡ (bit_in before m || in_interval low high m)
      own m b h =
          let e : j * 64 + (m - j * 64) ≡ m = omega arith in
          bit_in_lem after j (m - j * 64) m (omega arith) (omega arith)
          ∙ ap (λ (n : ℕ). bit_at n (m - j * 64)) (ap (λ (z : List ℕ). get_or z j 0) f ∙ get_or-set_same marks j (bit_or (get_or marks j 0) word) 0 l)
          ∙ bit_or_lem (get_or marks j 0) word (m - j * 64)
          ∙ ap₂ ◌||◌ (sym (bit_in_lem marks j (m - j * 64) m (omega arith) (omega arith)) ∙ g.rest m h)
          (w.each (m - j * 64) (omega arith) ∙ ap (in_interval low high) e)

-- ── what an interval adds ──

module _ (low high : ℕ) (before after : List ℕ) (w : IntervalMarked low high before after) where
  -- no mark is lost
  pub interval_grows : (m : ℕ) → bit_in before m ≡ true → bit_in after m ≡ true
  interval_grows m e =
      ⊎_elim (λ l. w.each m l ∙ or_left (bit_in before m) (in_interval low high m) e) (λ l. absurd (clash e (bit_past before m l)))
      (below_or m (length before * 64))

  -- a place that is marked then was marked, or lies in the interval
  pub interval_sound : (m : ℕ) → bit_in after m ≡ true → (bit_in before m ≡ true) ⊎ ((low ≤ m) × (m < high))
  interval_sound m e =
      ⊎_elim
      (λ l.
      ⊎_elim inl (λ h. inr (leb-true low m (and_left (leb low m) (ltb m high) h), ltb-true m high (and_right (leb low m) (ltb m high) h)))
      (or_cases (bit_in before m) (in_interval low high m) (sym (w.each m l) ∙ e)))
      (λ l. absurd (clash e (bit_past after m (omega (arith, w.same)))))
      (below_or m (length before * 64))

  -- every place of the interval is marked, as far as the words go
  pub interval_marks : (m : ℕ) → m < length after * 64 → low ≤ m → m < high → bit_in after m ≡ true
  interval_marks m l a b =
      w.each m (omega (arith, w.same)) ∙ or_right (bit_in before m) (in_interval low high m) (and_both (le-leb low m a) (lt-ltb m high b))
