-- The pieces that the mover can meet, as the bits of a word: how they are added one after the other. Assumes nothing.
use Rattle.list_laws.proofs.Kit.{◌∙◌, ◌≡◌, ap, refl, subst, sym, Bool, ◌&&◌, false, not, true, ◌⊎◌, inl, inr, List, ◌+◌, ◌-◌, ◌<◌, ◌≤◌}
use Rattle.list_laws.proofs.Kit.{suc, zero, ℕ, arith, eq-eqb, ne_eqb, eqb}
use Rattle.list_laws.proofs.Numbers.{below_or}
use Rattle.list_laws.proofs.Tests.{and_left, and_right, clash}
use lib.Bits.{bit_and}
use lib.Count.{count_trailing_zeros}
use Rattle.model.specs.Layout.{Job, Layout}
use Rattle.bit_laws.specs.Bit.{bit_at}
use Rattle.bit_laws.proofs.Laws.{bit_of_zero}
use Rattle.bit_laws.proofs.Lowest.{trailing_set, trailing_clear, bit_cleared, cleared_lt}
use Rattle.search_tracks.specs.declared.Mover.{Mover}
use Rattle.search_beside.specs.Reading.{Apart, NearTold}
use Rattle.search_bounded.specs.Summing.{Summed}
use Rattle.search_bounded.proofs.Summing.{summed_apart}

-- the sums are those of the pieces below the next one that is left, and those that are not left after it are apart
pub record Adding (j : Job) (ws : List ℕ) (v : Layout) (m : Mover) (bound n left : ℕ) (sums : List ℕ) : Type 0 where
  pub small : left < 18446744073709551616
  pub few : (k : ℕ) → bit_at left k ≡ true → k < n
  pub apart : (k : ℕ) → bit_at left k ≡ true → (i : ℕ) → k ≤ i → i < n → bit_at left i ≡ false → Apart j v m i
  pub next : (k : ℕ) → k ≤ n → ((i : ℕ) → i < k → bit_at left i ≡ false) → (bit_at left k ≡ true) ⊎ (k ≡ n) → Summed j ws v m bound k sums

module _ (j : Job) (ws : List ℕ) (v : Layout) (m : Mover) (bound n : ℕ) where
  -- pieces apart are passed over
  over : (sums : List ℕ) (from d : ℕ) → Summed j ws v m bound from sums → ((i : ℕ) → from ≤ i → i < from + d → Apart j v m i)
      → Summed j ws v m bound (from + d) sums
  over sums from zero s h = let e : from ≡ from + 0 = omega arith in subst (λ (k : ℕ). Summed j ws v m bound k sums) e s
  over sums from (suc d) s h =
      let e : from + d + 1 ≡ from + suc d = omega arith in
      subst (λ (k : ℕ). Summed j ws v m bound k sums) e
      (summed_apart j ws v m bound (from + d) sums (over sums from d s (λ i a b. h i a (omega arith))) (h (from + d) (omega arith) (omega arith)))

  -- all pieces are left at first
  pub adding_start : (near : ℕ) (sums : List ℕ) → NearTold j v m n near → Summed j ws v m bound 0 sums → Adding j ws v m bound n near sums
  adding_start near sums h s =
      record {
        small = h.small;
        few = h.few;
        apart = λ k e i a b f. h.apart i b f;
        next = λ k l none stop.
            let e : 0 + k ≡ k = omega arith in
            subst (λ (i : ℕ). Summed j ws v m bound i sums) e (over sums 0 k s (λ i a b. h.apart i (omega arith) (none i (omega arith))));
      }

  module _ (left : ℕ) (sums : List ℕ) (some : left ≡ 0 → ⊥) (h : Adding j ws v m bound n left sums) where
    -- the lowest piece that is left
    abbrev lowest : ℕ
    lowest = count_trailing_zeros 64 left

    positive : 0 < left
    positive = omega arith

    lowest_set : bit_at left lowest ≡ true
    lowest_set = trailing_set 64 left positive h.small

    -- is one of the job's, and the sums are those of the pieces before it
    pub adding_at : (lowest < n) × Summed j ws v m bound lowest sums
    adding_at =
        let l = h.few lowest lowest_set in
        (l, h.next lowest (omega arith) (λ i b. trailing_clear 64 left i b) (inl lowest_set))

    -- the others stay
    others : (i : ℕ) → (i ≡ lowest → ⊥) → bit_at (bit_and left (left - 1)) i ≡ bit_at left i
    others i f = bit_cleared 64 left i positive h.small ∙ ap (λ (b : Bool). bit_at left i && not b) (ne_eqb i lowest f) ∙ kept (bit_at left i)
      where
        kept : (b : Bool) → (b && not false) ≡ b
        kept true = refl
        kept false = refl

    -- a piece that is left is a later one
    later : (k : ℕ) → bit_at (bit_and left (left - 1)) k ≡ true → (lowest < k) × (bit_at left k ≡ true)
    later k e =
        let a : (bit_at left k && not (eqb k lowest)) ≡ true = sym (bit_cleared 64 left k positive h.small) ∙ e in
        let b : bit_at left k ≡ true = and_left (bit_at left k) (not (eqb k lowest)) a in
        (by_place b (and_right (bit_at left k) (not (eqb k lowest)) a) (below_or lowest k), b)
      where
        by_place : bit_at left k ≡ true → not (eqb k lowest) ≡ true → (lowest < k) ⊎ (k ≤ lowest) → lowest < k
        by_place b c (inl l) = l
        by_place b c (inr l) = by_end (below_or k lowest)
          where
            by_end : (k < lowest) ⊎ (lowest ≤ k) → lowest < k
            by_end (inl x) = absurd (clash b (trailing_clear 64 left k x))
            by_end (inr x) =
                let z : k ≡ lowest = omega arith in
                absurd (clash c (ap not (eq-eqb k lowest z)))

    -- it is added
    pub adding_step : (after : List ℕ) → Summed j ws v m bound (lowest + 1) after → Adding j ws v m bound n (bit_and left (left - 1)) after
    adding_step after s =
        record {
          small = omega (arith, cleared_lt left positive, h.small);
          few = λ k e. h.few k (later k e).1;
          apart = λ k e i a b f.
              let l = later k e in
              h.apart k l.1 i a b (sym (others i (λ z. let x = l.0 in omega arith)) ∙ f);
          next = λ k l none stop. passed k l none (beyond k stop);
        }
      where
        beyond : (k : ℕ) → (bit_at (bit_and left (left - 1)) k ≡ true) ⊎ (k ≡ n) → lowest < k
        beyond k (inl e) = (later k e).0
        beyond k (inr e) = let l = adding_at.0 in omega arith

        passed : (k : ℕ) → k ≤ n → ((i : ℕ) → i < k → bit_at (bit_and left (left - 1)) i ≡ false) → lowest < k → Summed j ws v m bound k after
        passed k l none b =
            let e : lowest + 1 + (k - (lowest + 1)) ≡ k = omega arith in
            subst (λ (i : ℕ). Summed j ws v m bound i after) e
            (over after (lowest + 1) (k - (lowest + 1)) s
            (λ i x y. h.apart lowest lowest_set i (omega arith) (omega arith) (sym (others i (λ z. omega arith)) ∙ none i (omega arith))))

  -- none is left
  pub adding_end : (left : ℕ) (sums : List ℕ) → left ≡ 0 → Adding j ws v m bound n left sums → Summed j ws v m bound n sums
  adding_end left sums e h = h.next n (omega arith) (λ i l. ap (λ (x : ℕ). bit_at x i) e ∙ bit_of_zero i) (inr refl)
