-- Shifts of the second of two stretches of strips at which they do not meet, passed one stretch of shifts after another until they do.
-- Assumes nothing.
use Rattle.list_laws.proofs.Kit.{◌∙◌, ◌≡◌, ap, sym, false, not, true, ⊎_elim, List, ◌+◌, ◌-◌, ◌<◌, ◌≤◌, ℕ, arith}
use Rattle.list_laws.proofs.Firsts.{first_unique, first_now}
use Rattle.list_laws.proofs.Numbers.{below_or}
use Rattle.list_laws.proofs.Tests.{passes}
use Rattle.pair_overlap.specs.Meet.{shifted, stretches_meet, clear_at, clear_below}
use Rattle.pair_overlap.specs.declared.Corner.{Corner}
use Rattle.pair_slide.specs.Meeting.{meets_below}

-- a shift after a shift is their sum
shifted_more : (r q : ℕ) (v : Corner) → shifted q (shifted r v) ≡ shifted (r + q) v
shifted_more r q v = let e : v.along + r + q ≡ v.along + (r + q) = omega arith in λ i. record { along = e i; across = v.across }

module _ (g : ℕ) (es : List (List ℕ)) (u : Corner) (fs : List (List ℕ)) (v : Corner) where
  -- they meet at no shift below r
  abbrev pub FreeBelow : ℕ → Type 0
  FreeBelow r = (m : ℕ) → m < r → stretches_meet g es u fs (shifted m v) ≡ false

  -- what they do at m, from the corner shifted by r before
  met_on : (r m : ℕ) → r ≤ m → stretches_meet g es u fs (shifted m v) ≡ stretches_meet g es u fs (shifted (m - r) (shifted r v))
  met_on r m l =
      let e : r + (m - r) ≡ m = omega arith in
      ap (λ (z : ℕ). stretches_meet g es u fs (shifted z v)) (sym e) ∙ ap (stretches_meet g es u fs) (sym (shifted_more r (m - r) v))

  -- free below r, and from there at every further shift below q: free below r + q
  pub free_on : (r q : ℕ) → FreeBelow r → ((k : ℕ) → k < q → stretches_meet g es u fs (shifted k (shifted r v)) ≡ false) → FreeBelow (r + q)
  free_on r q a b m l = ⊎_elim (a m) (λ (h : r ≤ m). met_on r m h ∙ b (m - r) (omega arith)) (below_or m r)

  -- where the least clear shift is not 0, they meet as they stand
  pub meets_now : (bound first : ℕ) → first ≡ clear_below g es u fs v bound → (first ≡ 0 → ⊥) → stretches_meet g es u fs (shifted 0 v) ≡ true
  unfolding clear_below
  meets_now bound first least some =
      passes _ (λ (e : stretches_meet g es u fs (shifted 0 v) ≡ false). some (least ∙ first_now (clear_at g es u fs v) bound (ap not e)))

  -- free below r, and they meet at r: r is the least shift at which they do
  pub meets_first : (bound r : ℕ) → r ≤ bound → FreeBelow r → stretches_meet g es u fs (shifted 0 (shifted r v)) ≡ true → r ≡ meets_below g es u fs v bound
  unfolding meets_below
  meets_first bound r l a e =
      first_unique (λ k. stretches_meet g es u fs (shifted k v)) bound r
      record {
        within = l;
        before = a;
        passing = λ m. let z : r - r ≡ 0 = omega arith in met_on r r (omega arith) ∙ rw z e;
      }

  -- free below the bound: the bound
  pub meets_none : (bound r : ℕ) → r ≡ bound → FreeBelow r → r ≡ meets_below g es u fs v bound
  unfolding meets_below
  meets_none bound r e a =
      first_unique (λ k. stretches_meet g es u fs (shifted k v)) bound r record { within = omega arith; before = a; passing = λ m. absurd (omega arith) }
