-- One mark at 0: a word of 1 before words of 0. Assumes nothing.
use Rattle.list_laws.proofs.Kit.{◌∙◌, ◌≡◌, refl, sym, true, ◌⊎◌, inl, inr, List, ◌/◌, ◌<◌, ◌≤◌, suc, zero, ℕ, arith}
use Rattle.list_laws.proofs.Kit.{get_or-eq_default, get_or, get_or-replicate, length, length-replicate, replicate, set, get_or-set_other}
use Rattle.list_laws.proofs.Numbers.{below_or}
use Rattle.list_laws.proofs.Tests.{clash}
use Rattle.bit_laws.specs.Bit.{bit_at, bit_in}
use Rattle.bit_laws.proofs.Laws.{bit_of_zero}
use Rattle.bit_laws.proofs.Strings.{bit_in_lem, bit_none, bit_past}
use Rattle.search_levels.specs.Levels.{level_of, LevelRoom, Grown, Limited}
use Rattle.search_levels.proofs.Growing.{level_first, level_length, grown_levels}
use Rattle.search_maps.specs.Making.{Points}

-- words of 0, and the first of them set to 1
abbrev none : List ℕ
none = replicate 45 0

abbrev one : List ℕ
one = set none 0 1

-- its first bit is set
one_at : bit_in one 0 ≡ true
unfolding bit_in bit_at
one_at = refl

-- past the first word there is 0
zeros : (k : ℕ) → 1 ≤ k → get_or one k 0 ≡ 0
zeros k l = get_or-set_other none 0 k 1 0 (λ e. omega arith) ∙ go (below_or k 45)
  where
    go : (k < 45) ⊎ (45 ≤ k) → ◌≡◌ {A = ℕ} (get_or none k 0) 0
    go (inl h) = get_or-replicate {A = ℕ} 45 k 0 0 h
    go (inr h) = let l : length none ≤ k = omega (arith, length-replicate {A = ℕ} 45 0) in get_or-eq_default none 0 l

-- bit 0 is the only bit of 1
one_bit : (i : ℕ) → bit_at 1 i ≡ true → i ≡ 0
unfolding bit_at
one_bit zero e = refl
one_bit (suc i) e = absurd (clash e (bit_of_zero i))

-- and no other
one_only : (p : ℕ) → bit_in one p ≡ true → p ≡ 0
one_only p e = go (below_or p 64)
  where
    go : (p < 64) ⊎ (64 ≤ p) → p ≡ 0
    go (inl l) = one_bit p (sym (bit_in_lem one 0 p p l (omega arith)) ∙ e)
    go (inr l) = absurd (clash e (bit_none one p (zeros (p / 64) (omega arith))))

-- there is room for its levels
room : LevelRoom one 5 9
room = record { some = omega arith; few = omega arith; room = omega arith; short = omega arith }

-- and they end early
limited : Limited one 5 9
limited p l e = let z = one_only p e in omega arith

-- the levels of that mark
pub points_from : (ws : List ℕ) → Grown one 5 9 ws → Points ws
points_from ws g =
    record {
      levels = grown_levels one ws 5 9 room g limited;
      set = level_first one ws 5 9 room g 0 (omega arith) ∙ one_at;
      only = λ p e. go p e (below_or p 320);
    }
  where
    go : (p : ℕ) → bit_in (level_of ws 5 0) p ≡ true → (p < 320) ⊎ (320 ≤ p) → p ≡ 0
    go p e (inl l) = one_only p (sym (level_first one ws 5 9 room g p (omega arith)) ∙ e)
    go p e (inr l) =
        let q : length (level_of ws 5 0) ≡ 5 = level_length one ws 5 9 room g 0 (omega arith) in
        absurd (clash e (bit_past (level_of ws 5 0) p (omega arith)))
