-- The level of a strip, and one more strip. Assumes nothing.
use Rattle.list_laws.proofs.Kit.{◌∙◌, ◌≡◌, ap, ap₂, refl, subst, sym, Bool, ◌&&◌, ◌||◌, false, true, ◌⊎◌, inl, inr, List, ◌%◌, ◌*◌, ◌+◌, ◌-◌, ◌<◌, ◌^◌}
use Rattle.list_laws.proofs.Kit.{◌≤◌, suc, ℕ, one-mul, add-one, arith, leb, drop, length, length-drop, length-take, take, mul-le-mul_right}
use Rattle.list_laws.proofs.Numbers.{below_or}
use lib.Count.{count_leading_zeros, leading_top}
use lib.Pow.{pow_mono, shl_exact}
use Rattle.model.specs.Bounded.{any_below}
use Rattle.pair_overlap.specs.Meet.{strip_at}
use Rattle.bit_laws.specs.Bit.{bit_in}
use Rattle.bit_laws.proofs.Laws.{or_assoc}
use Rattle.search_words.specs.Words.{Spare, Widened, StripMarked}
use Rattle.search_levels.specs.Levels.{level_of, Levels}
use Rattle.search_marks.specs.Marks.{strip_bit, LevelOf, SpanOf, Made}
use Rattle.search_marks.specs.declared.Span.{Span}

-- what the count of leading zeros says of the level
pub level_at : (count : ℕ) → 1 ≤ count → count < 512 → (count_leading_zeros 64 count ≤ 63) × LevelOf count (63 - count_leading_zeros 64 count)
level_at count l h =
    let t = leading_top 64 count l (omega arith) in
    let e : 63 - count_leading_zeros 64 count ≡ t.0 = omega (arith, t.1) in
    let q : 2 ^ (63 - count_leading_zeros 64 count) ≡ 2 ^ t.0 = ap (λ (n : ℕ). 2 ^ n) e in
    let hi : count < 2 ^ suc t.0 = t.3 in
    (omega (arith, t.1), record { low = omega (arith, t.2); high = omega arith; few = subst (λ (n : ℕ). n < 9) (sym e) (below t.0 t.2) })
  where
    below : (j : ℕ) → 2 ^ j ≤ count → j < 9
    below j m = go (below_or j 9)
      where
        go : (j < 9) ⊎ (9 ≤ j) → j < 9
        go (inl k) = k
        go (inr k) = absurd (omega (arith, pow_mono k))

-- a shifted one is a power of two
pub power_of : (k : ℕ) → k < 9 → 1 * 2 ^ k % 2 ^ 64 ≡ 2 ^ k
power_of k l = shl_exact 1 k 64 (omega arith) (omega arith) ∙ one-mul (2 ^ k)

-- the level of a count below 2 ^ levels is one of the levels
pub level_below : (count levels k : ℕ) → count < 2 ^ levels → LevelOf count k → k < levels
level_below count levels k h v = go (below_or k levels)
  where
    go : (k < levels) ⊎ (levels ≤ k) → k < levels
    go (inl l) = l
    go (inr l) = let m = v.low in absurd (omega (arith, pow_mono l))

-- a count below 2 ^ levels is small
pub few_count : (count levels : ℕ) → levels ≤ 9 → count < 2 ^ levels → count < 512
few_count count levels l h = let p : 2 ^ levels ≤ 2 ^ 9 = pow_mono l in omega arith

-- a level as the code lends it
module _ (marks : List ℕ) (size levels k m : ℕ) (e : m ≡ size) (g : Levels marks size levels) (l : k < levels) where
  -- it lies in the slice
  pub level_in : k * size + size ≤ length marks
  level_in =
      let h : (k + 1) * size ≤ levels * size = mul-le-mul_right size (omega arith) in
      let q : (k + 1) * size ≡ k * size + size = omega arith in
      let r = g.room in
      omega arith

  -- it is as long as a level
  pub length_as : length (take m (drop (k * size) marks)) ≡ size
  length_as = let h = level_in in simp (length-take, length-drop) (omega arith)

  -- its last word is clear
  pub spare_as : Spare (take m (drop (k * size) marks))
  spare_as = subst (λ (x : ℕ). Spare (take x (drop (k * size) marks))) (sym e) (g.spare k l)

  -- it widens level 0
  pub wide_as : (n : ℕ) → n ≡ 2 ^ k → Widened (level_of marks size 0) n (take m (drop (k * size) marks))
  wide_as n q =
      subst (λ (y : ℕ). Widened (level_of marks size 0) y (take m (drop (k * size) marks))) (sym q)
      (subst (λ (x : ℕ). Widened (level_of marks size 0) (2 ^ k) (take x (drop (k * size) marks))) (sym e) (g.widened k l))

-- ── strip by strip ──

-- one more number to try
any_suc : (i : ℕ) (f : ℕ → Bool) → any_below (i + 1) f ≡ (any_below i f || f i)
any_suc i f = ap (λ (n : ℕ). any_below n f) (add-one i) ∙ turn (f i) (any_below i f)
  where
    turn : (b c : Bool) → elim b as (λ _. Bool) [ true ↦ true | false ↦ c ] ≡ (c || b)
    turn true true = refl
    turn true false = refl
    turn false true = refl
    turn false false = refl

-- one more
pub made_more : (xs bs : List ℕ) (es : List (List ℕ)) (w up i : ℕ) (ys zs : List ℕ) (r : Span) → SpanOf (strip_at es i) w up r → Made xs bs es w up i ys
    → StripMarked ys bs r.place r.count zs → Made xs bs es w up (i + 1) zs
unfolding strip_bit
made_more xs bs es w up i ys zs r o m f =
    record {
      same = f.same ∙ m.same;
      each = λ p.
          f.each p
          ∙ ap₂ (λ (a b : ℕ). bit_in ys p || (leb a p && any_below b (λ t. leb t (p - a) && bit_in bs (p - a - t)))) o.place_is o.count_is
          ∙ ap (λ (b : Bool). b || strip_bit bs w up (strip_at es i) p) (m.each p)
          ∙ or_assoc (bit_in xs p) _ _
          ∙ ap (λ (b : Bool). bit_in xs p || b) (sym (any_suc i (λ j. strip_bit bs w up (strip_at es j) p)));
    }
