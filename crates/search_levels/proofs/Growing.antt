-- Levels made one after the other, and what they are as strings of their own. Assumes nothing.
use Rattle.list_laws.proofs.Kit.{◌∙◌, ◌≡◌, ap, ap₂, refl, sym, Bool, ◌&&◌, ◌||◌, false, true, ◌⊎◌, inl, inr, List, ◌*◌, ◌+◌, ◌-◌, ◌/◌, ◌<◌, ◌^◌, ◌≤◌}
use Rattle.list_laws.proofs.Kit.{suc, ℕ, arith, add-one, leb, le-leb, leb-true, length, length-drop, length-take, mul-le-mul_right, zero-mul}
use Rattle.list_laws.proofs.Numbers.{below_or, below_more}
use Rattle.list_laws.proofs.Bounded.{any_witness, any_agree}
use Rattle.list_laws.proofs.Tests.{and_left, and_right, clash, fails}
use lib.Pow.{pow_mono}
use Rattle.model.specs.Bounded.{any_below}
use Rattle.bit_laws.specs.Bit.{bit_in, length_limit}
use Rattle.bit_laws.proofs.Strings.{bit_alike, bit_part, bit_past}
use Rattle.bit_laws.proofs.Wider.{Down, any_wider}
use Rattle.search_levels.specs.Levels.{level_of, LevelRoom, NextLevel, Grown, Limited, Levels}

-- a test by its cases
self : (b : Bool) → b ≡ elim b as (λ _. Bool) [ true ↦ true | false ↦ false ]
self true = refl
self false = refl

-- one mark for each is the string itself
one_mark : (B : ℕ → Bool) (p : ℕ) → B p ≡ any_below 1 (Down B p)
one_mark B p =
    let e : p ≡ p - 0 = omega arith in
    ap B e ∙ ap (λ (b : Bool). b && B (p - 0)) (sym (le-leb 0 p (omega arith))) ∙ self (Down B p 0)

-- one more of a factor
suc_times : (k size : ℕ) → (k + 1) * size ≡ k * size + size
suc_times k size = omega arith

-- the places of a level lie behind one another
level_place : (k j size p : ℕ) → k < j → p < size * 64 → (k * size * 64 + p) / 64 < j * size
level_place k j size p l m =
    let h : (k + 1) * size ≤ j * size = mul-le-mul_right size (omega arith) in
    let e : (k + 1) * size ≡ k * size + size = suc_times k size in
    omega arith

-- twice a power of two
pub doubled : (k : ℕ) → 2 ^ k + 2 ^ k ≡ 2 ^ (k + 1)
doubled k = let e : 2 ^ k + 2 ^ k ≡ 2 ^ suc k = omega arith in e ∙ ap (λ (i : ℕ). 2 ^ i) (sym (add-one k))

module _ (xs : List ℕ) (size : ℕ) where
  -- level 0 is there
  pub grown_one : Grown xs size 1 xs
  grown_one =
      record {
        same = refl;
        each = λ k p l m.
            let z : k ≡ 0 = omega arith in
            let e : k * size * 64 + p ≡ p = (let q : k * size ≡ 0 = ap (λ (n : ℕ). n * size) z ∙ zero-mul size in omega arith) in
            ap (bit_in xs) e ∙ one_mark (bit_in xs) p ∙ ap (λ (n : ℕ). any_below (2 ^ n) (Down (bit_in xs) p)) (sym z);
      }

  -- the level after level k
  pub grown_more : (ys zs : List ℕ) (k from s : ℕ) → from ≡ k * size → s ≡ 2 ^ k → Grown xs size (k + 1) ys → NextLevel ys from size s zs
      → Grown xs size (k + 1 + 1) zs
  grown_more ys zs k from s ef es g n = record { same = n.same ∙ g.same; each = λ j p l m. go j p m (below_more l) }
    where
      here : from + size ≡ (k + 1) * size
      here = let e : (k + 1) * size ≡ k * size + size = suc_times k size in omega arith

      old : (p : ℕ) → p < size * 64 → bit_in ys (from * 64 + p) ≡ any_below (2 ^ k) (Down (bit_in xs) p)
      old p m = ap (λ (q : ℕ). bit_in ys (q * 64 + p)) ef ∙ g.each k p (omega arith) m

      go : (j p : ℕ) → p < size * 64 → (j ≡ k + 1) ⊎ (j < k + 1) → bit_in zs (j * size * 64 + p) ≡ any_below (2 ^ j) (Down (bit_in xs) p)
      go j p m (inl e) =
          ap (λ (q : ℕ). bit_in zs (q * 64 + p)) (ap (λ (i : ℕ). i * size) e ∙ sym here)
          ∙ n.each p m
          ∙ ap₂ (λ (a b : Bool). a || (leb s p && b)) (old p m) (old (p - s) (omega arith))
          ∙ ap (λ (i : ℕ). any_below (2 ^ k) (Down (bit_in xs) p) || (leb i p && any_below (2 ^ k) (Down (bit_in xs) (p - i)))) es
          ∙ any_wider (bit_in xs) (2 ^ k) (2 ^ k) p (omega arith)
          ∙ ap (λ (i : ℕ). any_below i (Down (bit_in xs) p)) (doubled k ∙ ap (λ (i : ℕ). 2 ^ i) (sym e))
      go j p m (inr l) =
          bit_alike zs ys (j * size * 64 + p) (n.before _ (let h = level_place j (k + 1) size p l m in let e = here in omega arith)) ∙ g.each j p l m

-- there is room for the level after level k, and its marks are few
pub next_fits : (xs : List ℕ) (size levels k : ℕ) → LevelRoom xs size levels → k < levels - 1
    → (k * size + size + size ≤ length xs) × (2 ^ k ≤ 256) × (length xs < length_limit)
next_fits xs size levels k room l =
    let h : (k + 1 + 1) * size ≤ levels * size = mul-le-mul_right size (omega arith) in
    let e : (k + 1 + 1) * size ≡ k * size + size + size = omega arith in
    let r = room.room in
    let f = room.few in
    let p : 2 ^ k ≤ 2 ^ 8 = pow_mono (let b : k ≤ 8 = omega arith in b) in
    (omega arith, p, room.short)

module _ (xs ys : List ℕ) (size levels : ℕ) (room : LevelRoom xs size levels) (g : Grown xs size levels ys) where
  -- level k as a string: its bits are those of the slice
  level_bit : (k p : ℕ) → p < size * 64 → bit_in (level_of ys size k) p ≡ bit_in ys (k * size * 64 + p)
  level_bit k p m = bit_part ys (k * size) size p m

  -- level k lies in the slice
  level_there : (k : ℕ) → k < levels → k * size + size ≤ length ys
  level_there k l =
      let h : (k + 1) * size ≤ levels * size = mul-le-mul_right size (omega arith) in
      let e : (k + 1) * size ≡ k * size + size = suc_times k size in
      let r = room.room in
      let q = g.same in
      omega arith

  -- it is as long as a level
  pub level_length : (k : ℕ) → k < levels → length (level_of ys size k) ≡ size
  level_length k l = let h = level_there k l in simp (length-take, length-drop) (omega arith)

  -- level 0 is as it was
  pub level_first : (p : ℕ) → p < size * 64 → bit_in (level_of ys size 0) p ≡ bit_in xs p
  level_first p m =
      let o = room.some in
      let e : 0 * size * 64 + p ≡ p = omega arith in
      level_bit 0 p m ∙ g.each 0 p (omega arith) m ∙ sym (one_mark (bit_in xs) p)

  module _ (lim : Limited xs size levels) where
    -- a widened mark lies before the last word
    below_last : (k p : ℕ) → k < levels → any_below (2 ^ k) (Down (bit_in (level_of ys size 0)) p) ≡ true → p < (size - 1) * 64
    below_last k p l e =
        let w = any_witness (2 ^ k) (Down (bit_in (level_of ys size 0)) p) e in
        let t : ℕ = w.number in
        let tl : t < 2 ^ k = w.below in
        let tp : t ≤ p = leb-true _ _ (and_left (leb t p) _ w.passing) in
        let b : bit_in (level_of ys size 0) (p - t) ≡ true = and_right (leb t p) _ w.passing in
        let o = room.some in
        let len : length (level_of ys size 0) ≡ size = level_length 0 (omega arith) in
        let inside : p - t < size * 64 = by_contra' (p - t) (size * 64) (λ h. clash b (bit_past (level_of ys size 0) (p - t) (omega arith))) in
        let q = lim (p - t) inside (sym (level_first (p - t) inside) ∙ b) in
        let r : 2 ^ k ≤ 2 ^ (levels - 1) = pow_mono (omega arith) in
        omega arith
      where
        by_contra' : (a b : ℕ) → (b ≤ a → ⊥) → a < b
        by_contra' a b h = go (below_or a b)
          where
            go : (a < b) ⊎ (b ≤ a) → a < b
            go (inl l) = l
            go (inr l) = absurd (h l)

    wide_at : (k p : ℕ) → k < levels → (p < size * 64) ⊎ (size * 64 ≤ p)
        → bit_in (level_of ys size k) p ≡ any_below (2 ^ k) (Down (bit_in (level_of ys size 0)) p)
    wide_at k p l (inl m) =
        level_bit k p m ∙ g.each k p l m
        ∙ any_agree (2 ^ k) _ _ (λ t h. ap (λ (b : Bool). leb t p && b) (sym (level_first (p - t) (omega arith))))
    wide_at k p l (inr m) =
        bit_past (level_of ys size k) p (let e = level_length k l in omega arith)
        ∙ sym (fails _ (λ e. let h = below_last k p l e in omega arith))

    -- the levels can be moved up
    pub grown_levels : Levels ys size levels
    grown_levels =
        record {
          room = let q = g.same in let r = room.room in omega arith;
          few = room.few;
          short = let q = g.same in let r = room.short in omega arith;
          spare = λ k l. record {
            last = λ p m.
                wide_at k p l (below_or p (size * 64))
                ∙ fails _ (λ e. let h = below_last k p l e in let q = level_length k l in omega arith);
          };
          widened = λ k l p. wide_at k p l (below_or p (size * 64));
        }
