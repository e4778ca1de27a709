-- A string that takes over its own bits, word by word from the top down, and so again with what is done. Assumes nothing.
use Rattle.list_laws.proofs.Kit.{◌∙◌, ◌≡◌, ap, ap₂, refl, subst, sym, Bool, ◌&&◌, ◌||◌, true, ◌⊎◌, inl, inr, List, ◌%◌, ◌*◌, ◌+◌, ◌-◌, ◌/◌, ◌<◌, ◌^◌, ◌≤◌, ℕ}
use Rattle.list_laws.proofs.Kit.{arith, leb, le-leb, leb-true, lt-leb, get_or, length, length-set, set, get_or-set_other, get_or-set_same, ℕ_discrete}
use Rattle.list_laws.proofs.Numbers.{below_or}
use Rattle.list_laws.proofs.Tests.{and_left, and_right, and_both, or_cases, or_left, or_right}
use lib.Bits.{bit_or}
use Rattle.bit_laws.specs.Bit.{bit_at, bit_in}
use Rattle.bit_laws.proofs.Laws.{or_false, bit_or_lem, bit_shl, bit_of_zero}
use Rattle.bit_laws.proofs.Strings.{bit_in_lem}
use Rattle.search_words.specs.Words.{or_bit, Spread, Below, Repeated}
use Rattle.search_words.proofs.Moved.{moved, bit_moved, moved_at}

-- the words above j are done, and a is the word that moves up to j
pub record Spreading (count s : ℕ) (xs ys : List ℕ) (a j : ℕ) : Type 0 where
  pub same : length ys ≡ length xs
  pub high : j < count
  pub low : s / 64 ≤ j
  pub next : a ≡ get_or xs (j - s / 64) 0
  pub done : (k i : ℕ) → j < k → k < count → i < 64 → bit_at (get_or ys k 0) i ≡ or_bit xs 0 xs 0 s (k * 64 + i)
  pub before : (k : ℕ) → k ≤ j → get_or ys k 0 ≡ get_or xs k 0
  pub rest : (k : ℕ) → count ≤ k → get_or ys k 0 ≡ get_or xs k 0

module _ (count s : ℕ) (xs : List ℕ) where
  -- before the first word
  pub spread_start : s / 64 < count → Spreading count s xs xs (get_or xs (count - 1 - s / 64) 0) (count - 1)
  spread_start l =
      record {
        same = refl;
        high = omega arith;
        low = omega arith;
        next = refl;
        done = λ k i h m n. absurd (omega arith);
        before = λ k h. refl;
        rest = λ k h. refl;
      }

  -- a word that takes over the one moved up to it
  word_done : (j v i : ℕ) → i < 64 → bit_at v i ≡ (leb s (j * 64 + i) && bit_in xs (0 * 64 + (j * 64 + i - s)))
      → bit_at (bit_or (get_or xs j 0) v) i ≡ or_bit xs 0 xs 0 s (j * 64 + i)
  unfolding or_bit
  word_done j v i l e =
      bit_or_lem (get_or xs j 0) v i ∙ ap₂ ◌||◌ (sym (bit_in_lem xs j i (0 * 64 + (j * 64 + i)) l (omega arith))) e

  -- one word more, of which the bits are those that are moved up to it
  word_set : (ys : List ℕ) (a j v : ℕ) → j < length ys → Spreading count s xs ys a j
      → ((i : ℕ) → i < 64 → bit_at v i ≡ (leb s (j * 64 + i) && bit_in xs (0 * 64 + (j * 64 + i - s))))
      → (k i : ℕ) → j ≤ k → k < count → i < 64 → bit_at (get_or (set ys j (bit_or (get_or ys j 0) v)) k 0) i ≡ or_bit xs 0 xs 0 s (k * 64 + i)
  word_set ys a j v jl g h k i l m n = go (ℕ_discrete k j)
    where
      go : Dec (k ≡ j) → bit_at (get_or (set ys j (bit_or (get_or ys j 0) v)) k 0) i ≡ or_bit xs 0 xs 0 s (k * 64 + i)
      go (yes e) =
          ap (λ (x : ℕ). bit_at (get_or (set ys j (bit_or (get_or ys j 0) v)) x 0) i) e
          ∙ ap (λ (x : ℕ). bit_at x i) (get_or-set_same ys j (bit_or (get_or ys j 0) v) 0 jl)
          ∙ ap (λ (x : ℕ). bit_at (bit_or x v) i) (g.before j (omega arith))
          ∙ word_done j v i n (h i n)
          ∙ ap (λ (x : ℕ). or_bit xs 0 xs 0 s (x * 64 + i)) (sym e)
      go (no f) = ap (λ (x : ℕ). bit_at x i) (get_or-set_other ys j k (bit_or (get_or ys j 0) v) 0 f) ∙ g.done k i (omega arith) m n

  -- one word more
  pub spread_step : (ys : List ℕ) (a j b : ℕ) → s / 64 < j → count ≤ length xs → b ≡ get_or ys (j - s / 64 - 1) 0 → b < 18446744073709551616
      → Spreading count s xs ys a j → Spreading count s xs (set ys j (bit_or (get_or ys j 0) (moved a b (s % 64)))) b (j - 1)
  spread_step ys a j b l lc eb small g =
      let q = g.same in
      let hi = g.high in
      let old : b ≡ get_or xs (j - s / 64 - 1) 0 = eb ∙ g.before (j - s / 64 - 1) (omega arith) in
      let e : j - s / 64 - 1 ≡ 0 + (j - 1 - s / 64) = omega arith in
      let f : j - s / 64 - 1 ≡ j - 1 - s / 64 = omega arith in
      let here : j - s / 64 ≡ 0 + (j - s / 64) = omega arith in
      let w =
      word_set ys a j (moved a b (s % 64)) (omega arith) g
      (λ i n. ap (λ (x : ℕ). bit_at (moved x b (s % 64)) i) (g.next ∙ ap (λ (x : ℕ). get_or xs x 0) here)
      ∙ moved_at xs 0 s j b i n g.low
      (record { small = small; none = λ z. absurd (omega arith); one = λ z. old ∙ ap (λ (x : ℕ). get_or xs x 0) e })) in
      record {
        same = simp length-set g.same;
        high = omega arith;
        low = omega arith;
        next = old ∙ ap (λ (x : ℕ). get_or xs x 0) f;
        done = λ k i h m n. w k i (omega arith) m n;
        before = λ k h. get_or-set_other ys j k _ 0 (λ z. omega arith) ∙ g.before k (omega arith);
        rest = λ k h. get_or-set_other ys j k _ 0 (λ z. omega arith) ∙ g.rest k h;
      }

  -- from the bits of the words
  from_words : (ys : List ℕ) → length ys ≡ length xs
      → ((k i : ℕ) → k < count → i < 64 → bit_at (get_or ys k 0) i ≡ or_bit xs 0 xs 0 s (k * 64 + i))
      → ((k : ℕ) → count ≤ k → get_or ys k 0 ≡ get_or xs k 0) → Spread count s xs ys
  from_words ys q h r =
      record {
        same = q;
        each = λ p l.
            let e : p / 64 * 64 + p % 64 ≡ p = omega arith in
            bit_in_lem ys (p / 64) (p % 64) p (omega arith) (omega arith) ∙ h (p / 64) (p % 64) (omega arith) (omega arith) ∙ ap (or_bit xs 0 xs 0 s) e;
        rest = r;
      }

  -- a word below those that anything moves up to
  untouched : (k i : ℕ) → k < s / 64 → i < 64 → bit_at (get_or xs k 0) i ≡ or_bit xs 0 xs 0 s (k * 64 + i)
  unfolding or_bit
  untouched k i l m =
      simp (lt-leb s (k * 64 + i) (omega arith)) (sym (bit_in_lem xs k i (0 * 64 + (k * 64 + i)) m (omega arith)) ∙ sym (or_false _))

  -- where the words are too few, nothing moves
  pub spread_none : count ≤ s / 64 → Spread count s xs xs
  spread_none l = from_words xs refl (λ k i h m. untouched k i (omega arith) m) (λ k h. refl)

  -- the last word
  module _ (ys : List ℕ) (a : ℕ) (lc : count ≤ length xs) (g : Spreading count s xs ys a (s / 64)) where
    -- its bits
    last_word : (i : ℕ) → i < 64 → bit_at (a * 2 ^ (s % 64) % 2 ^ 64) i ≡ (leb s (s / 64 * 64 + i) && bit_in xs (0 * 64 + (s / 64 * 64 + i - s)))
    last_word i n =
        let here : s / 64 - s / 64 ≡ 0 + (s / 64 - s / 64) = omega arith in
        bit_shl 64 a (s % 64) i n ∙ sym (or_false _)
        ∙ ap (λ (x : Bool). (leb (s % 64) i && bit_at a (i - s % 64)) || x) (sym (bit_of_zero (64 - s % 64 + i)))
        ∙ sym (bit_moved a 0 (s % 64) i n (omega arith))
        ∙ ap (λ (x : ℕ). bit_at (moved x 0 (s % 64)) i) (g.next ∙ ap (λ (x : ℕ). get_or xs x 0) here)
        ∙ moved_at xs 0 s (s / 64) 0 i n (omega arith) (record { small = omega arith; none = λ z. refl; one = λ z. absurd (omega arith) })

    -- the words with it
    abbrev full : List ℕ
    full = set ys (s / 64) (bit_or (get_or ys (s / 64) 0) (a * 2 ^ (s % 64) % 2 ^ 64))

    full_word : (k i : ℕ) → k < count → i < 64 → (k < s / 64) ⊎ (s / 64 ≤ k) → bit_at (get_or full k 0) i ≡ or_bit xs 0 xs 0 s (k * 64 + i)
    full_word k i h m (inl b) =
        ap (λ (x : ℕ). bit_at x i) (get_or-set_other ys (s / 64) k _ 0 (λ z. omega arith) ∙ g.before k (omega arith)) ∙ untouched k i b m
    full_word k i h m (inr b) =
        let q = g.same in
        let hi = g.high in
        word_set ys a (s / 64) (a * 2 ^ (s % 64) % 2 ^ 64) (omega arith) g last_word k i b h m

    all_done : Spread count s xs full
    all_done =
        let hi = g.high in
        from_words full (simp length-set g.same) (λ k i h m. full_word k i h m (below_or k (s / 64)))
        (λ k h. get_or-set_other ys (s / 64) k _ 0 (λ z. omega arith) ∙ g.rest k h)

  -- after the last word
  pub spread_end : (ys : List ℕ) (a j : ℕ) → j ≤ s / 64 → count ≤ length xs → Spreading count s xs ys a j
      → Spread count s xs (set ys (s / 64) (bit_or (get_or ys (s / 64) 0) (a * 2 ^ (s % 64) % 2 ^ 64)))
  spread_end ys a j l lc g =
      let lo = g.low in
      let here : j ≡ s / 64 = omega arith in
      all_done ys a lc (subst (λ (x : ℕ). Spreading count s xs ys a x) here g)

-- ── as much again ──

module _ (count unit : ℕ) (xs : List ℕ) where
  -- before the first turn
  pub repeated_one : Repeated count unit 1 xs xs
  repeated_one =
      record {
        same = refl;
        set = λ p l b.
            let f = b.few in
            let z : b.t * unit ≡ 0 = ap (λ (n : ℕ). n * unit) (let e : b.t ≡ 0 = omega arith in e) ∙ omega arith in
            let e : p ≡ b.q = (let h = b.place in omega arith) in
            ap (bit_in xs) e ∙ b.marked;
        only = λ p l e. record { t = 0; q = p; few = omega arith; marked = e; place = omega arith };
      }

  -- one turn more
  pub repeated_more : (ys zs : List ℕ) (done step : ℕ) → step ≤ done → Repeated count unit done xs ys → Spread count (step * unit) ys zs
      → Repeated count unit (done + step) xs zs
  unfolding or_bit
  repeated_more ys zs done step l r g =
      record {
        same = g.same ∙ r.same;
        set = λ p h b. g.each p h ∙ put p h b (below_or b.t done);
        only = λ p h e. take p h (or_cases (bit_in ys (0 * 64 + p)) _ (sym (g.each p h) ∙ e));
      }
    where
      put : (p : ℕ) → p < count * 64 → (b : Below xs unit (done + step) p) → (b.t < done) ⊎ (done ≤ b.t)
          → (bit_in ys (0 * 64 + p) || (leb (step * unit) p && bit_in ys (0 * 64 + (p - step * unit)))) ≡ true
      put p h b (inl f) =
          let e : 0 * 64 + p ≡ p = omega arith in
          or_left _ _ (ap (bit_in ys) e ∙ r.set p h (record { t = b.t; q = b.q; few = f; marked = b.marked; place = b.place }))
      put p h b (inr f) =
          let m = b.few in
          let w = b.place in
          let c : b.t - step + step ≡ b.t = omega arith in
          let k : (b.t - step + step) * unit ≡ b.t * unit = ap (λ (n : ℕ). n * unit) c in
          let e : (b.t - step) * unit + step * unit ≡ b.t * unit = omega arith in
          let v : 0 * 64 + (p - step * unit) ≡ p - step * unit = omega arith in
          or_right (bit_in ys (0 * 64 + p)) _
          (and_both (le-leb (step * unit) p (omega arith))
          (ap (bit_in ys) v
          ∙ r.set (p - step * unit) (omega arith)
          (record { t = b.t - step; q = b.q; few = omega arith; marked = b.marked; place = omega arith })))

      take : (p : ℕ) → p < count * 64 → (bit_in ys (0 * 64 + p) ≡ true) ⊎ ((leb (step * unit) p && bit_in ys (0 * 64 + (p - step * unit))) ≡ true)
          → Below xs unit (done + step) p
      take p h (inl e) =
          let v : p ≡ 0 * 64 + p = omega arith in
          let b = r.only p h (ap (bit_in ys) v ∙ e) in
          let f = b.few in
          record { t = b.t; q = b.q; few = omega arith; marked = b.marked; place = b.place }
      take p h (inr e) =
          let m : step * unit ≤ p = leb-true _ _ (and_left (leb (step * unit) p) _ e) in
          let v : p - step * unit ≡ 0 * 64 + (p - step * unit) = omega arith in
          let b = r.only (p - step * unit) (omega arith) (ap (bit_in ys) v ∙ and_right (leb (step * unit) p) _ e) in
          let f = b.few in
          let w = b.place in
          let k : (b.t + step) * unit ≡ b.t * unit + step * unit = omega arith in
          record { t = b.t + step; q = b.q; few = omega arith; marked = b.marked; place = omega arith }
