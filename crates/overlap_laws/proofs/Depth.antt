-- Document 01, 'No-fit rows and penalty': the depth along a direction is the least |t|, t whole, such that the second piece
-- shifted by t shares no pixel with the first. `depth` tries the shifts 0, 1, 2, .. with both signs and stops at the first that
-- parts the two, so all before it share a pixel; and it does not run out, since a shift by half the sum of the two extents, or
-- more, parts them for one of the signs: pixels shared at both signs would lie farther apart than the boxes reach.
-- Assumes nothing.
use Rattle.list_laws.proofs.Kit.{◌∙◌, ◌≡◌, ap, refl, sym, Bool, false, not, true, ◌⊎◌, inl, inr, ⊎_elim, ◌+◌}
use Rattle.list_laws.proofs.Kit.{◌<◌, ◌≤◌, suc, zero, ℕ, eq-or-lt_of_le, le_antisymm}
use Rattle.list_laws.proofs.Kit.{arith, by_contra, nat_abs, negsuc, pos, ℤ, not-false, not-true}
use Rattle.model.specs.Piece.{Point, Shape, shift, extent}
use Rattle.model.specs.Overlap.{share, apart_at, reach, depth}
use Rattle.model.specs.declared.Direction.{Direction}
use Rattle.model.specs.declared.Direction.TheVariants.{Horizontal, Vertical}
use Rattle.list_laws.proofs.Tests.{or_cases, or_left, or_right, or_neither, passes, clash}
use Rattle.list_laws.proofs.Bounded.{First, first_from_lem}
use Rattle.overlap_laws.specs.Overlap.{shares_shifted, PartingShift, LeastShift, SharedPixel}
use Rattle.overlap_laws.proofs.Share.{SameDifference, SamePixels, share_pixels, share_witness, share_symmetric, share_difference, shared_along}
use Rattle.overlap_laws.proofs.Share.{pixel_along, along_shift, shift_zero}

-- ── what it is to be apart at a shift ──

module _ (d : Direction) (s : Shape) (u : Point) (t : Shape) (v : Point) where
  -- apart at k: t shifted by k shares no pixel with s, or s shifted by k shares none with t
  pub apart_cases : (k : ℕ) → apart_at d s u t v k ≡ true → (share s u t (shift d k v) ≡ false) ⊎ (share s (shift d k u) t v ≡ false)
  unfolding apart_at
  apart_cases k e = ⊎_elim (λ a. inl (not-true _ a)) (λ b. inr (not-true _ b)) (or_cases _ _ e)

  -- t shifted by k shares no pixel with s: they are apart at k
  pub apart_second : (k : ℕ) → share s u t (shift d k v) ≡ false → apart_at d s u t v k ≡ true
  unfolding apart_at
  apart_second k e = or_left _ _ (ap not e)

  -- s shifted by k shares no pixel with t: they are apart at k
  pub apart_first : (k : ℕ) → share s (shift d k u) t v ≡ false → apart_at d s u t v k ≡ true
  unfolding apart_at
  apart_first k e = or_right (not (share s u t (shift d k v))) _ (ap not e)

  -- not apart at k: they share a pixel with either of the two shifted by k
  pub not_apart : (k : ℕ) → apart_at d s u t v k ≡ false → (share s u t (shift d k v) ≡ true) × (share s (shift d k u) t v ≡ true)
  unfolding apart_at
  not_apart k e =
      let n = or_neither _ _ e in
      (not-false _ n.0, not-false _ n.1)

  -- a shift by half the sum of the two extents, rounded down, or by more, parts them for one of the signs
  pub apart_half : (k : ℕ) → extent d s + extent d t ≤ k + k + 1 → apart_at d s u t v k ≡ true
  apart_half k h =
      passes (apart_at d s u t v k)
      (λ e.
      let both = not_apart k e in
      let w : SharedPixel s u t (shift d k v) = share_witness s u t (shift d k v) both.0 in
      let z : SharedPixel s (shift d k u) t v = share_witness s (shift d k u) t v both.1 in
      omega (
        arith,
        along_shift d k u,
        along_shift d k v,
        shared_along d w,
        shared_along d z,
        pixel_along d s w.p w.of_first,
        pixel_along d t z.q z.of_second,
      ))

  -- ── the depth ──

  -- what the search says of the depth
  searched : First (apart_at d s u t v) 0 (reach d s t) (depth d s u t v)
  unfolding depth
  searched = first_from_lem (apart_at d s u t v) 0 (reach d s t)

  -- they share a pixel, for both signs, at every shift smaller than the depth
  pub depth_before : (k : ℕ) → k < depth d s u t v → (share s u t (shift d k v) ≡ true) × (share s (shift d k u) t v ≡ true)
  depth_before k l = not_apart k (searched.before k (omega arith) l)

  -- the depth is the least: where they are apart, the shift is as large as the depth
  pub depth_least : (k : ℕ) → apart_at d s u t v k ≡ true → depth d s u t v ≤ k
  depth_least k e =
      by_contra (depth d s u t v) k (λ l. clash e (searched.before k (omega arith) l))

  -- the depth is at most half the sum of the two extents, and so at most the larger of them
  pub depth_half : (k : ℕ) → extent d s + extent d t ≤ k + k + 1 → depth d s u t v ≤ k
  depth_half k h = depth_least k (apart_half k h)

  -- in particular it is at most the bound of the search
  pub depth_reach : depth d s u t v ≤ reach d s t
  depth_reach = depth_half (reach d s t) (omega arith)

  -- at the depth they are apart for one of the signs
  pub depth_apart : apart_at d s u t v (depth d s u t v) ≡ true
  depth_apart =
      ⊎_elim (λ e. apart_half (depth d s u t v) (omega arith)) (λ l. searched.passing (omega arith)) (eq-or-lt_of_le depth_reach)

  -- at the depth t shifted by it shares no pixel with s, or s shifted by it shares none with t
  pub depth_parts : (share s u t (shift d (depth d s u t v) v) ≡ false) ⊎ (share s (shift d (depth d s u t v) u) t v ≡ false)
  depth_parts = apart_cases (depth d s u t v) depth_apart

  -- pieces that share no pixel have depth 0
  pub depth_zero : share s u t v ≡ false → depth d s u t v ≡ 0
  depth_zero e =
      let h : depth d s u t v ≤ 0 = depth_least 0 (apart_second 0 (rw shift_zero e)) in
      omega arith

  -- pieces of depth 0 share no pixel
  pub zero_depth : depth d s u t v ≡ 0 → share s u t v ≡ false
  zero_depth e =
      ⊎_elim (λ a. rw shift_zero at a) (λ b. rw shift_zero at b) (apart_cases 0 (rw (← e) depth_apart))

-- ── which is called first, and where the corners are ──

-- what is apart at k is so in the other order
apart_swap : (d : Direction) (s : Shape) (u : Point) (t : Shape) (v : Point) (k : ℕ) → apart_at d s u t v k ≡ true → apart_at d t v s u k ≡ true
apart_swap d s u t v k e =
    ⊎_elim
    (λ a. apart_first d t v s u k (share_symmetric t (shift d k v) s u ∙ a))
    (λ b. apart_second d t v s u k (share_symmetric t v s (shift d k u) ∙ b))
    (apart_cases d s u t v k e)

-- the depth in one order is at most that in the other
depth_swap : (d : Direction) (s : Shape) (u : Point) (t : Shape) (v : Point) → depth d s u t v ≤ depth d t v s u
depth_swap d s u t v = depth_least d s u t v _ (apart_swap d t v s u _ (depth_apart d t v s u))

-- the depth does not depend on which of the two is called first
pub depth_symmetric : (d : Direction) (s : Shape) (u : Point) (t : Shape) (v : Point) → depth d s u t v ≡ depth d t v s u
depth_symmetric d s u t v = le_antisymm (depth_swap d s u t v) (depth_swap d t v s u)

-- shifting the second of each pair by k keeps the differences equal
difference_second : (d : Direction) (k : ℕ) (u v u' v' : Point) → SameDifference u v u' v' → SameDifference u (shift d k v) u' (shift d k v')
difference_second Horizontal k u v u' v' e = record { column = omega (arith, e.column); row = e.row }
difference_second Vertical k u v u' v' e = record { column = e.column; row = omega (arith, e.row) }

-- and so does shifting the first of each pair
difference_first : (d : Direction) (k : ℕ) (u v u' v' : Point) → SameDifference u v u' v' → SameDifference (shift d k u) v (shift d k u') v'
difference_first Horizontal k u v u' v' e = record { column = omega (arith, e.column); row = e.row }
difference_first Vertical k u v u' v' e = record { column = e.column; row = omega (arith, e.row) }

-- the two pairs in the other order
difference_swap : (u v u' v' : Point) → SameDifference u v u' v' → SameDifference u' v' u v
difference_swap u v u' v' e = record { column = sym e.column; row = sym e.row }

-- at corners with the same difference the depth is at most the other
depth_moved : (d : Direction) (s : Shape) (u : Point) (t : Shape) (v u' v' : Point) → SameDifference u v u' v' → depth d s u t v ≤ depth d s u' t v'
depth_moved d s u t v u' v' e =
    let k = depth d s u' t v' in
    depth_least d s u t v k
    (⊎_elim
    (λ a. apart_second d s u t v k (share_difference s u t (shift d k v) u' (shift d k v') (difference_second d k u v u' v' e) ∙ a))
    (λ b. apart_first d s u t v k (share_difference s (shift d k u) t v (shift d k u') v' (difference_first d k u v u' v' e) ∙ b))
    (depth_parts d s u' t v'))

-- the depth depends on the corners' difference only
pub depth_difference : (d : Direction) (s : Shape) (u : Point) (t : Shape) (v u' v' : Point) → SameDifference u v u' v'
    → depth d s u t v ≡ depth d s u' t v'
depth_difference d s u t v u' v' e =
    le_antisymm (depth_moved d s u t v u' v' e) (depth_moved d s u' t v' u v (difference_swap u v u' v' e))

-- ── pixel sets ──

-- for the same pixels the depth is at most the other
depth_least_pixels : (d : Direction) (s : Shape) (u : Point) (t : Shape) (v : Point) (s' t' : Shape) → SamePixels s s' → SamePixels t t'
    → depth d s u t v ≤ depth d s' u t' v
depth_least_pixels d s u t v s' t' e f =
    let k = depth d s' u t' v in
    depth_least d s u t v k
    (⊎_elim
    (λ a. apart_second d s u t v k (share_pixels s u t (shift d k v) s' t' e f ∙ a))
    (λ b. apart_first d s u t v k (share_pixels s (shift d k u) t v s' t' e f ∙ b))
    (depth_parts d s' u t' v))

-- the depth depends on the pixel sets only
pub depth_pixels : (d : Direction) (s : Shape) (u : Point) (t : Shape) (v : Point) (s' t' : Shape) → SamePixels s s' → SamePixels t t'
    → depth d s u t v ≡ depth d s' u t' v
depth_pixels d s u t v s' t' e f =
    le_antisymm
    (depth_least_pixels d s u t v s' t' e f)
    (depth_least_pixels d s' u t' v s t (λ p. sym (e p)) (λ p. sym (f p)))

-- ── over whole shifts ──

-- t shifted up by m
shift_up : (d : Direction) (s : Shape) (u : Point) (t : Shape) (v : Point) (m : ℕ) → share s u t (shift d m v) ≡ false
    → PartingShift (shares_shifted d s u t v) m
shift_up d s u t v m e = record { amount = pos m; size = refl; apart = rw (shift_zero d u) e }

-- t shifted down by m: s shifted up by m
shift_down : (d : Direction) (s : Shape) (u : Point) (t : Shape) (v : Point) (m : ℕ) → share s (shift d m u) t v ≡ false
    → PartingShift (shares_shifted d s u t v) m
shift_down d s u t v zero e = record { amount = pos 0; size = refl; apart = rw (shift_zero d v) e }
shift_down d s u t v (suc n) e = record { amount = negsuc n; size = refl; apart = rw (shift_zero d v) e }

-- where a whole shift parts them, they are apart at its size
apart_shifted : (d : Direction) (s : Shape) (u : Point) (t : Shape) (v : Point) (z : ℤ) → shares_shifted d s u t v z ≡ false
    → apart_at d s u t v (nat_abs z) ≡ true
apart_shifted d s u t v (pos n) e = apart_second d s u t v n (rw (shift_zero d u) at e)
apart_shifted d s u t v (negsuc n) e = apart_first d s u t v (suc n) (rw (shift_zero d v) at e)

-- the depth is the least |z|, z whole, such that t shifted by z shares no pixel with s
pub depth_exactly : (d : Direction) (s : Shape) (u : Point) (t : Shape) (v : Point) → LeastShift (shares_shifted d s u t v) (depth d s u t v)
depth_exactly d s u t v =
    record {
      parting = ⊎_elim (shift_up d s u t v _) (shift_down d s u t v _) (depth_parts d s u t v);
      least = λ z e. depth_least d s u t v (nat_abs z) (apart_shifted d s u t v z e);
    }

-- there is one such number
pub least_shift_unique : (meet : ℤ → Bool) (m n : ℕ) → LeastShift meet m → LeastShift meet n → m ≡ n
least_shift_unique meet m n l r =
    le_antisymm
    (rw r.parting.size at (l.least r.parting.amount r.parting.apart))
    (rw l.parting.size at (r.least l.parting.amount l.parting.apart))
