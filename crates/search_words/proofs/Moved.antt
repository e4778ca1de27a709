-- One word of a row that is moved up: its own bits and those of the word below it. Assumes nothing.
use Rattle.list_laws.proofs.Kit.{◌∙◌, ◌≡◌, ap, ap₂, refl, sym, ◌&&◌, ◌||◌, ◌⊎◌, inl, inr, List, ◌%◌, ◌*◌, ◌+◌, ◌-◌, ◌/◌, ◌<◌, ◌^◌, ◌≤◌, ℕ}
use Rattle.list_laws.proofs.Kit.{arith, leb, le-leb, lt-leb, get_or, length, length-set, set, get_or-set_other, get_or-set_same, ℕ_discrete}
use Rattle.list_laws.proofs.Numbers.{below_or}
use lib.Bits.{bit_or}
use Rattle.bit_laws.specs.Bit.{bit_at, bit_in}
use Rattle.bit_laws.proofs.Laws.{or_false, bit_or_lem, bit_shl, bit_shr, bit_above, bit_of_zero}
use Rattle.bit_laws.proofs.Strings.{bit_in_lem}
use Rattle.search_words.specs.Words.{or_bit, OrRow}

-- the bits that a word takes from a, moved up, and from the word below it
abbrev pub moved : ℕ → ℕ → ℕ → ℕ
moved a low up = bit_or (a * 2 ^ up % 2 ^ 64) (low / 2 ^ 1 / 2 ^ (63 - up))

-- the word below j's: none at first, then the one before
pub record Low (fs : List ℕ) (start skip j low : ℕ) : Type 0 where
  pub small : low < 18446744073709551616
  pub none : j ≡ skip → low ≡ 0
  pub one : skip < j → low ≡ get_or fs (start + (j - 1 - skip)) 0

-- bit i of such a word
pub bit_moved : (a low up i : ℕ) → i < 64 → up < 64 → bit_at (moved a low up) i ≡ ((leb up i && bit_at a (i - up)) || bit_at low (64 - up + i))
bit_moved a low up i l u =
    let e : 1 + (63 - up + i) ≡ 64 - up + i = omega arith in
    bit_or_lem (a * 2 ^ up % 2 ^ 64) (low / 2 ^ 1 / 2 ^ (63 - up)) i
    ∙ ap₂ ◌||◌ (bit_shl 64 a up i l) (bit_shr (low / 2 ^ 1) (63 - up) i ∙ bit_shr low 1 (63 - up + i) ∙ ap (bit_at low) e)

module _ (fs : List ℕ) (start s j low i : ℕ) (l : i < 64) (ge : s / 64 ≤ j) (lo : Low fs start (s / 64) j low) where
  -- it is the bit s lower of the other list
  pub moved_at : bit_at (moved (get_or fs (start + (j - s / 64)) 0) low (s % 64)) i ≡ (leb s (j * 64 + i) && bit_in fs (start * 64 + (j * 64 + i - s)))
  moved_at = bit_moved (get_or fs (start + (j - s / 64)) 0) low (s % 64) i l (omega arith) ∙ go (below_or i (s % 64)) (ℕ_discrete j (s / 64))
    where
      go : (i < s % 64) ⊎ (s % 64 ≤ i) → Dec (j ≡ s / 64)
          → ((leb (s % 64) i && bit_at (get_or fs (start + (j - s / 64)) 0) (i - s % 64)) || bit_at low (64 - s % 64 + i))
          ≡ (leb s (j * 64 + i) && bit_in fs (start * 64 + (j * 64 + i - s)))
      go (inr m) q =
          simp (le-leb (s % 64) i m, le-leb s (j * 64 + i) (omega arith), bit_above 64 low (64 - s % 64 + i) lo.small (omega arith))
          (or_false _ ∙ sym (bit_in_lem fs (start + (j - s / 64)) (i - s % 64) (start * 64 + (j * 64 + i - s)) (omega arith) (omega arith)))
      go (inl m) (yes e) =
          simp (lt-leb (s % 64) i m, lt-leb s (j * 64 + i) (omega arith))
          (ap (λ (n : ℕ). bit_at n (64 - s % 64 + i)) (lo.none e) ∙ bit_of_zero (64 - s % 64 + i))
      go (inl m) (no f) =
          simp (lt-leb (s % 64) i m, le-leb s (j * 64 + i) (omega arith))
          (ap (λ (n : ℕ). bit_at n (64 - s % 64 + i)) (lo.one (omega arith))
          ∙ sym (bit_in_lem fs (start + (j - 1 - s / 64)) (64 - s % 64 + i) (start * 64 + (j * 64 + i - s)) (omega arith) (omega arith)))

-- the words of the row below j are done
pub record Moving (xs : List ℕ) (at : ℕ) (fs : List ℕ) (start blocks s : ℕ) (ys : List ℕ) (low j : ℕ) : Type 0 where
  pub same : length ys ≡ length xs
  pub ge : s / 64 ≤ j
  pub lo : Low fs start (s / 64) j low
  pub done : (k i : ℕ) → k < j → i < 64 → bit_at (get_or ys (at + k) 0) i ≡ or_bit xs at fs start s (k * 64 + i)
  pub rest : (m : ℕ) → at + j ≤ m → get_or ys m 0 ≡ get_or xs m 0
  pub before : (m : ℕ) → m < at → get_or ys m 0 ≡ get_or xs m 0
  pub after : (m : ℕ) → at + blocks ≤ m → get_or ys m 0 ≡ get_or xs m 0

module _ (xs : List ℕ) (at : ℕ) (fs : List ℕ) (start blocks s : ℕ) where
  -- before the first word
  pub move_start : Moving xs at fs start blocks s xs 0 (s / 64)
  unfolding or_bit
  move_start =
      record {
        same = refl;
        ge = omega arith;
        lo = record { small = omega arith; none = λ e. refl; one = λ l. absurd (omega arith) };
        done = λ k i l m.
            simp (lt-leb s (k * 64 + i) (omega arith)) (sym (bit_in_lem xs (at + k) i (at * 64 + (k * 64 + i)) m (omega arith)) ∙ sym (or_false _));
        rest = λ m l. refl;
        before = λ m l. refl;
        after = λ m l. refl;
      }

  -- one more word
  pub move_step : (ys : List ℕ) (low j : ℕ) → j < blocks → at + j < length ys → get_or fs (start + (j - s / 64)) 0 < 18446744073709551616
      → Moving xs at fs start blocks s ys low j
      → Moving xs at fs start blocks s (set ys (at + j) (bit_or (get_or ys (at + j) 0) (moved (get_or fs (start + (j - s / 64)) 0) low (s % 64))))
      (get_or fs (start + (j - s / 64)) 0) (j + 1)
  unfolding or_bit
  move_step ys low j jb jl small g =
      record {
        same = simp length-set g.same;
        ge = omega (arith, g.ge);
        lo = record {
          small = small;
          none = λ e. absurd (omega (arith, g.ge));
          one = λ l. ap (λ (n : ℕ). get_or fs (start + n) 0) (back g.ge);
        };
        done = λ k i l m. go k i l m (ℕ_discrete k j);
        rest = λ m l. get_or-set_other ys (at + j) m _ 0 (omega arith) ∙ g.rest m (omega arith);
        before = λ m l. get_or-set_other ys (at + j) m _ 0 (omega arith) ∙ g.before m l;
        after = λ m l. get_or-set_other ys (at + j) m _ 0 (omega arith) ∙ g.after m l;
      }
    where
      back : s / 64 ≤ j → j - s / 64 ≡ j + 1 - 1 - s / 64
      back l = omega arith

      go : (k i : ℕ) → k < j + 1 → i < 64 → Dec (k ≡ j)
          → bit_at (get_or (set ys (at + j) (bit_or (get_or ys (at + j) 0) (moved (get_or fs (start + (j - s / 64)) 0) low (s % 64)))) (at + k) 0) i
          ≡ or_bit xs at fs start s (k * 64 + i)
      go k i l m (yes e) =
          ap (λ (n : ℕ). bit_at (get_or (set ys (at + j) (bit_or (get_or ys (at + j) 0) (moved (get_or fs (start + (j - s / 64)) 0) low (s % 64)))) (at + n) 0) i) e
          ∙ ap (λ (n : ℕ). bit_at n i) (get_or-set_same ys (at + j) (bit_or (get_or ys (at + j) 0) (moved (get_or fs (start + (j - s / 64)) 0) low (s % 64))) 0 jl)
          ∙ bit_or_lem (get_or ys (at + j) 0) (moved (get_or fs (start + (j - s / 64)) 0) low (s % 64)) i
          ∙ ap₂ ◌||◌ (ap (λ (n : ℕ). bit_at n i) (g.rest (at + j) (omega arith)) ∙ sym (bit_in_lem xs (at + j) i (at * 64 + (j * 64 + i)) m (omega arith)))
          (moved_at fs start s j low i m g.ge g.lo)
          ∙ ap (λ (n : ℕ). or_bit xs at fs start s (n * 64 + i)) (sym e)
      go k i l m (no f) =
          ap (λ (n : ℕ). bit_at n i)
          (get_or-set_other ys (at + j) (at + k) (bit_or (get_or ys (at + j) 0) (moved (get_or fs (start + (j - s / 64)) 0) low (s % 64))) 0 (omega arith))
          ∙ g.done k i (omega arith) m

  -- after the last
  pub move_end : (ys : List ℕ) (low j : ℕ) → blocks ≤ j → Moving xs at fs start blocks s ys low j → OrRow xs at fs start blocks s ys
  move_end ys low j l g =
      record {
        same = g.same;
        row = λ x m.
            let e : x / 64 * 64 + x % 64 ≡ x = omega arith in
            bit_in_lem ys (at + x / 64) (x % 64) (at * 64 + x) (omega arith) (omega arith)
            ∙ g.done (x / 64) (x % 64) (omega arith) (omega arith)
            ∙ ap (or_bit xs at fs start s) e;
        before = g.before;
        after = g.after;
      }
