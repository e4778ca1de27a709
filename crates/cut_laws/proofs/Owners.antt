-- In a layout in which no two pieces conflict, so that none share a pixel, a unit is a side exactly when the places before and after it have different owners.
-- Assumes nothing.
use Rattle.list_laws.proofs.Kit.{◌∙◌, ◌≡◌, ap, refl, sym, Bool, false, true, false≢true, not, ◌≢◌, ◌⊎◌, inl, inr, ⊎_elim, ◌<◌, suc, zero, ℕ}
use Rattle.list_laws.proofs.Kit.{arith, eqb, eq-eqb, ne_eqb, eqb-true, eqb-false, not-suc-le-zero}
use Rattle.list_laws.proofs.Tests.{clash, decided, fails, same_tests}
use Rattle.list_laws.proofs.Bounded.{any_witness, any_from}
use Rattle.list_laws.proofs.Numbers.{apart, below_suc}
use Rattle.model.specs.Bounded.{any_below}
use Rattle.model.specs.Piece.{Point, point}
use Rattle.model.specs.Layout.{Job, Layout}
use Rattle.model.specs.Cut.{differ, covers_in, side_of}
use Rattle.model.specs.declared.Direction.{Direction}
use Rattle.descent_laws.specs.Claims.{ValidLayout, NoConflict}
use Rattle.cut_laws.specs.Sides.{HasPixel, IsSheetPixel}
use Rattle.cut_laws.specs.Owners.{last_of, owner, owner_before}
use Rattle.cut_laws.proofs.Sides.{lies_pixel, pixel_on_sheet}

-- ── the last that passes ──

-- no two numbers below n pass
abbrev One : (ℕ → Bool) → ℕ → Type 0
One f n = (i k : ℕ) → i < n → k < n → f i ≡ true → f k ≡ true → i ≡ k

-- the number that passes is the last that does
last_step : (f : ℕ → Bool) (n i : ℕ) (b : Bool) → f n ≡ b → (b ≡ true → n ≡ i) → (i ≡ n) ⊎ (i < n) → f i ≡ true → (i < n → last_of f n ≡ suc i)
    → elim b as (λ _. ℕ) [ true ↦ suc n | false ↦ last_of f n ] ≡ suc i
last_step f n i true e one w p earlier = ap suc (one refl)
last_step f n i false e one (inl h) p earlier = absurd (clash p (ap f h ∙ e))
last_step f n i false e one (inr h) p earlier = earlier h

last_one : (f : ℕ → Bool) (n i : ℕ) → One f n → i < n → f i ≡ true → last_of f n ≡ suc i
last_one f zero i one l p = absurd (not-suc-le-zero l)
last_one f (suc n) i one l p =
    last_step f n i (f n) refl (λ e. one n i (omega arith) l e p) (below_suc l) p (λ h. last_one f n i (λ a b s t. one a b (omega arith) (omega arith)) h p)

-- where none passes there is none
pub last_none : (f : ℕ → Bool) (n : ℕ) → ((i : ℕ) → i < n → f i ≡ false) → last_of f n ≡ 0
last_none f zero h = refl
last_none f (suc n) h = rw (h n (omega arith), last_of) (last_none f n (λ i l. h i (omega arith)))

-- what is found passes
record Found (f : ℕ → Bool) (n m : ℕ) : Type 0 where
  number : ℕ
  below : number < n
  passing : f number ≡ true
  is : m ≡ suc number

found_step : (f : ℕ → Bool) (n : ℕ) (b : Bool) → f n ≡ b → ((last_of f n ≡ 0) ⊎ Found f n (last_of f n))
    → let m = elim b as (λ _. ℕ) [ true ↦ suc n | false ↦ last_of f n ] in (m ≡ 0) ⊎ Found f (suc n) m
found_step f n true e w = inr record { number = n; below = omega arith; passing = e; is = refl }
found_step f n false e (inl z) = inl z
found_step f n false e (inr w) = let h = w.below in inr record { number = w.number; below = omega arith; passing = w.passing; is = w.is }

last_found : (f : ℕ → Bool) (n : ℕ) → (last_of f n ≡ 0) ⊎ Found f n (last_of f n)
last_found f zero = inl refl
last_found f (suc n) = found_step f n (f n) refl (last_found f n)

-- ── two tests ──

module _ (f g : ℕ → Bool) (n : ℕ) (one : One f n) (one' : One g n) where
  -- a number that passes the first and not the second tells the last ones apart
  told_first : (i : ℕ) → i < n → f i ≡ true → g i ≡ false → last_of f n ≢ last_of g n
  told_first i l p q e =
      let a : last_of f n ≡ suc i = last_one f n i one l p in
      ⊎_elim (λ z. omega arith)
      (λ w.
      let b : last_of g n ≡ suc w.number = w.is in
      let same : w.number ≡ i = omega arith in
      clash (ap g (sym same) ∙ w.passing) q)
      (last_found g n)

  -- different last ones, the first of which there is, have a number that passes the first test and not the second
  differ_first : last_of f n ≢ last_of g n → Found f n (last_of f n) → any_below n (λ i. differ (f i) (g i)) ≡ true
  differ_first h w =
      let other : g w.number ≡ false = fails (g w.number) (λ e. h (w.is ∙ sym (last_one g n w.number one' w.below e))) in
      any_from n w.number (λ i. differ (f i) (g i)) w.below (rw (w.passing, other))

-- the same from the other side
swap_differ : (b c : Bool) → differ b c ≡ differ c b
swap_differ true true = refl
swap_differ true false = refl
swap_differ false true = refl
swap_differ false false = refl

any_swap : (f g : ℕ → Bool) (n : ℕ) → any_below n (λ i. differ (f i) (g i)) ≡ true → any_below n (λ i. differ (g i) (f i)) ≡ true
any_swap f g n e =
    let w = any_witness n (λ i. differ (f i) (g i)) e in
    any_from n w.number (λ i. differ (g i) (f i)) w.below (swap_differ (g w.number) (f w.number) ∙ w.passing)

module _ (f g : ℕ → Bool) (n : ℕ) (one : One f n) (one' : One g n) where
  -- which of the two passes
  told_step_lem : (i : ℕ) (b c : Bool) → i < n → f i ≡ b → g i ≡ c → differ b c ≡ true → last_of f n ≢ last_of g n
  told_step_lem i true false l p q h = told_first f g n one one' i l p q
  told_step_lem i false true l p q h = λ e. told_first g f n one' one i l q p (sym e)
  told_step_lem i true true l p q h = absurd (false≢true h)
  told_step_lem i false false l p q h = absurd (false≢true h)

  -- different last ones
  differ_step : last_of f n ≢ last_of g n → (last_of f n ≡ 0) ⊎ Found f n (last_of f n) → (last_of g n ≡ 0) ⊎ Found g n (last_of g n)
      → any_below n (λ i. differ (f i) (g i)) ≡ true
  differ_step h (inr w) v = differ_first f g n one one' h w
  differ_step h (inl z) (inr w) = any_swap g f n (differ_first g f n one' one (λ e. h (sym e)) w)
  differ_step h (inl z) (inl y) = absurd (h (z ∙ sym y))

  -- some number passes one of the tests and not the other exactly when the last that pass differ
  pub last_differ : any_below n (λ i. differ (f i) (g i)) ≡ not (eqb (last_of f n) (last_of g n))
  last_differ =
      same_tests _ _
      (λ e.
      let w = any_witness n (λ i. differ (f i) (g i)) e in
      ap not (ne_eqb (last_of f n) (last_of g n) (told_step_lem w.number (f w.number) (g w.number) w.below refl refl w.passing)))
      (λ e.
      differ_step (λ h. clash e (ap not (eq-eqb (last_of f n) (last_of g n) h))) (last_found f n) (last_found g n))

-- ── owners ──

module _ (j : Job) (v : Layout) (free : NoConflict j v) where
  -- two pieces that have a pixel at one place conflict, by every gap
  none_shared : (i k : ℕ) (p : Point) → i < k → k < j.size.count → HasPixel j v i p → HasPixel j v k p → ⊥
  none_shared i k p l h a b =
      free i k l h
      record {
        p = a.from;
        q = b.from;
        of_first = a.is_pixel;
        of_second = b.is_pixel;
        left = omega (arith, a.column, b.column);
        right = omega (arith, a.column, b.column);
        below = omega (arith, a.row, b.row);
        above = omega (arith, a.row, b.row);
      }

  -- a place has at most one owner
  one_owner : (p : Point) → One (λ i. covers_in j v i p) j.size.count
  one_owner p i k l h a b =
      ⊎_elim (eqb-true i k)
      (λ e. absurd
      (⊎_elim (λ (m : i < k). none_shared i k p m h (lies_pixel j v i p a) (lies_pixel j v k p b))
      (λ (m : k < i). none_shared k i p m l (lies_pixel j v k p b) (lies_pixel j v i p a))
      (apart i k (eqb-false i k e))))
      (decided (eqb i k))

  -- a unit is a side exactly when the owners before and after it differ
  pub sides_by_owner : (d : Direction) (a c : ℕ)
      → any_below j.size.count (λ i. side_of d j v i a c) ≡ not (eqb (owner_before d j v a c) (owner j v (point d a c)))
  unfolding side_of
  sides_by_owner d a zero =
      last_differ (λ i. false) (λ i. covers_in j v i (point d a 0)) j.size.count (λ i k l h e. absurd (false≢true e)) (one_owner (point d a 0))
      ∙ ap (λ (m : ℕ). not (eqb m (owner j v (point d a 0)))) (last_none (λ i. false) j.size.count (λ i l. refl))
  sides_by_owner d a (suc c) =
      last_differ (λ i. covers_in j v i (point d a c)) (λ i. covers_in j v i (point d a (suc c))) j.size.count (one_owner (point d a c))
      (one_owner (point d a (suc c)))

-- a place that is not on the sheet has no owner
pub no_owner : (j : Job) (v : Layout) → ValidLayout j v → (p : Point) → (IsSheetPixel j p → ⊥) → owner j v p ≡ 0
no_owner j v within p h =
    last_none (λ i. covers_in j v i p) j.size.count
    (λ i l. fails (covers_in j v i p) (λ e. h (pixel_on_sheet j v within i l p (lies_pixel j v i p e))))
