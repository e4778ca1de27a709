-- Document 02, point 7, one slide of a free piece. Its placement changes only along the direction, towards 0, so that it keeps its turn and
-- stays inside; where it comes to rest it has been found to conflict with none, and no other piece has moved. Assumes nothing.
use Rattle.list_laws.proofs.Kit.{◌≡◌, refl, Bool, false, not, true, ◌≢◌, ◌+◌, ◌-◌, ◌<◌, ◌≤◌, suc, zero, ℕ, le_refl, le_trans, sub-zero, arith, length}
use Rattle.list_laws.proofs.Kit.{length-set, get_or-set_other, get_or-set_same, set-get_or, ne_eqb, not-false, not-true, ℕ_discrete}
use Rattle.list_laws.proofs.Tests.{and_right, clash}
use Rattle.list_laws.proofs.Bounded.{any_none}
use Rattle.list_laws.proofs.Firsts.{FirstBelow}
use Rattle.list_laws.proofs.Sums.{sum_grown}
use Rattle.model.specs.Bounded.{sum_below}
use Rattle.model.specs.Piece.{along, corner, line_through}
use Rattle.model.specs.Layout.{Job, Layout, is_locked, inside, origin, place_of, with_place, shape_in, corner_in, pair_of, pair_conflicts}
use Rattle.model.specs.Compact.{slid_to, conflicts_with_some, fits_at, pixels_slid, slide_of, slide, corner_sum}
use Rattle.model.specs.declared.Direction.{Direction}
use Rattle.model.specs.declared.Direction.TheVariants.{Horizontal, Vertical}
use Rattle.model.specs.declared.Placement.{Placement}
use Rattle.overlap_laws.specs.Overlap.{NearPixels}
use Rattle.overlap_laws.proofs.Grown.{conflict_from}
use Rattle.overlap_laws.proofs.Penalty.{conflict_symmetric}
use Rattle.descent_laws.specs.Claims.{NoConflict}
use Rattle.descent_laws.proofs.Search.{inside_below, below_inside}
use Rattle.descent_laws.proofs.Descent.{set_keeps, valid_set, locked_set}
use Rattle.compact_laws.specs.Pushed.{Pushed}

-- ── a placement moved along a direction ──

-- moved to where it is
pub moved_same : (d : Direction) (p : Placement) → slid_to d p (along d (corner p)) ≡ p
moved_same Horizontal p = refl
moved_same Vertical p = refl

-- it keeps its turn
pub moved_turn : (d : Direction) (p : Placement) (a : ℕ) → (slid_to d p a).turn ≡ p.turn
moved_turn Horizontal p a = refl
moved_turn Vertical p a = refl

-- moved towards 0 it is not further right
moved_left : (d : Direction) (p : Placement) (a : ℕ) → a ≤ along d (corner p) → (corner (slid_to d p a)).x ≤ (corner p).x
moved_left Horizontal p a l = l
moved_left Vertical p a l = le_refl _

-- nor further up
moved_down : (d : Direction) (p : Placement) (a : ℕ) → a ≤ along d (corner p) → (corner (slid_to d p a)).y ≤ (corner p).y
moved_down Horizontal p a l = le_refl _
moved_down Vertical p a l = l

-- its coordinates fall by as much as it is moved
moved_fall : (d : Direction) (p : Placement) (n : ℕ) → n ≤ along d (corner p)
    → (corner p).x + (corner p).y ≡ (corner (slid_to d p (along d (corner p) - n))).x + (corner (slid_to d p (along d (corner p) - n))).y + n
moved_fall Horizontal p n l = omega arith
moved_fall Vertical p n l = omega arith

-- it stays inside
pub moved_inside : (d : Direction) (j : Job) (i : ℕ) (p : Placement) (a : ℕ) → inside j i p ≡ true → a ≤ along d (corner p)
    → inside j i (slid_to d p a) ≡ true
moved_inside d j i p a e l =
    below_inside j i p.turn (line_through d p) a
    (le_trans (omega arith) (inside_below j i p.turn (line_through d p) (along d (corner p)) (rw (moved_same d p) e)))

-- ── how far ──

-- one more pixel that fits: the coordinates on the way
fitting_before : (fits : ℕ → Bool) (a r : ℕ) → fits a ≡ true → ((k : ℕ) → k < r → not (fits (a - 1 - k)) ≡ false)
    → (k : ℕ) → k < suc r → not (fits (suc a - 1 - k)) ≡ false
fitting_before fits a r h before zero l = let e : suc a - 1 - 0 ≡ a = omega arith in rw (e, h)
fitting_before fits a r h before (suc k) l = let e : suc a - 1 - suc k ≡ a - 1 - k = omega arith in rw e (before k (omega arith))

-- one more pixel, by its test
pixels_step : (fits : ℕ → Bool) (a : ℕ) → FirstBelow (λ m. not (fits (a - 1 - m))) a (pixels_slid fits a) → (b : Bool) → fits a ≡ b
    → FirstBelow (λ m. not (fits (suc a - 1 - m))) (suc a) (elim b as (λ _. ℕ) [ true ↦ suc (pixels_slid fits a) | false ↦ 0 ])
pixels_step fits a w true h =
    let r : ℕ = pixels_slid fits a in
    record {
      within = let l = w.within in omega arith;
      before = fitting_before fits a r h w.before;
      passing = λ l. let e : suc a - 1 - suc r ≡ a - 1 - r = omega arith in rw e (w.passing (omega arith));
    }
pixels_step fits a w false h =
    record {
      within = omega arith;
      before = λ k l. absurd (omega arith);
      passing = λ l. let e : suc a - 1 - 0 ≡ a = omega arith in rw (e, h);
    }

-- the pixels slid: every coordinate on the way fits, and the next does not
pixels_first : (fits : ℕ → Bool) (a : ℕ) → FirstBelow (λ m. not (fits (a - 1 - m))) a (pixels_slid fits a)
unfolding pixels_slid
pixels_first fits zero = record { within = omega arith; before = λ k l. absurd (omega arith); passing = λ l. absurd (omega arith) }
pixels_first fits (suc a) = pixels_step fits a (pixels_first fits a) _ refl

-- so far a piece slides: every coordinate on the way fits, and the next does not
pub slide_first : (d : Direction) (j : Job) (i : ℕ) (v : Layout)
    → FirstBelow (λ m. not (fits_at d j v i (along d (corner_in v i) - 1 - m))) (along d (corner_in v i)) (slide_of d j i v)
unfolding slide_of
slide_first d j i v = pixels_first (fits_at d j v i) (along d (corner_in v i))

-- a piece that slides fits where it comes to rest
slide_fits : (d : Direction) (j : Job) (i : ℕ) (v : Layout) → slide_of d j i v ≢ 0
    → fits_at d j v i (along d (corner_in v i) - slide_of d j i v) ≡ true
slide_fits d j i v n =
    let a : ℕ = along d (corner_in v i) in
    let r : ℕ = slide_of d j i v in
    let e : a - 1 - (r - 1) ≡ a - r = omega arith in
    not-false _ (rw e at ((slide_first d j i v).before (r - 1) (omega arith)))

-- one that does not slide does not fit one pixel further
pub still_stuck : (d : Direction) (j : Job) (i : ℕ) (v : Layout) (a : ℕ) → slide_of d j i v ≡ 0 → along d (corner_in v i) ≡ suc a
    → fits_at d j v i a ≡ false
still_stuck d j i v a n e =
    let back : along d (corner_in v i) - 1 - slide_of d j i v ≡ a = omega arith in
    not-true _ (rw back at ((slide_first d j i v).passing (omega arith)))

-- ── pieces that conflict ──

-- two pieces with pixels too near conflict
near_pair : (j : Job) (v : Layout) (i k : ℕ) → NearPixels j.size.gap (shape_in j v i) (corner_in v i) (shape_in j v k) (corner_in v k)
    → pair_conflicts j v (pair_of i k) ≡ true
unfolding pair_conflicts
near_pair j v i k near = conflict_from _ _ _ _ _ near

-- whichever is named first
pair_swap : (j : Job) (v : Layout) (i k : ℕ) → pair_conflicts j v (pair_of i k) ≡ pair_conflicts j v (pair_of k i)
unfolding pair_conflicts
pair_swap j v i k = conflict_symmetric _ _ _ _ _

-- a piece that conflicts with none does not conflict with another
none_at : (j : Job) (v : Layout) (i : ℕ) → conflicts_with_some j v i ≡ false → (k : ℕ) → k < j.size.count → k ≢ i
    → pair_conflicts j v (pair_of i k) ≡ false
unfolding conflicts_with_some
none_at j v i e k l n = rw (ne_eqb k i n) at (any_none j.size.count _ e k l)

-- a piece placed anew that conflicts with none leaves no conflict where there was none
placed_apart : (j : Job) (v : Layout) (i : ℕ) (p : Placement) → conflicts_with_some j (with_place v i p) i ≡ false → NoConflict j v
    → NoConflict j (with_place v i p)
placed_apart j v i p none apart a b rising below near = by_tests (ℕ_discrete a i) (ℕ_discrete b i)
  where
    met : pair_conflicts j (with_place v i p) (pair_of a b) ≡ true
    met = near_pair j (with_place v i p) a b near

    by_tests : Dec (a ≡ i) → Dec (b ≡ i) → ⊥
    by_tests (yes e) s = clash (rw e at met) (none_at j (with_place v i p) i none b below (omega arith))
    by_tests (no n) (yes s) =
        clash (rw (pair_swap j (with_place v i p) a b, s) at met) (none_at j (with_place v i p) i none a (omega arith) n)
    by_tests (no n) (no m) =
        apart a b rising below (rw (get_or-set_other v i a p origin n, get_or-set_other v i b p origin m) at near)

-- ── the slide ──

-- where the coordinates of one piece fall by n, the sum of all falls by n
fallen_sum : (v : Layout) (i : ℕ) (p : Placement) (n : ℕ) → i < length v
    → (corner_in v i).x + (corner_in v i).y ≡ (corner p).x + (corner p).y + n → n + corner_sum (with_place v i p) ≡ corner_sum v
unfolding corner_sum
fallen_sum v i p n l e =
    let before : ℕ → ℕ = λ k. (corner_in v k).x + (corner_in v k).y in
    let after : ℕ → ℕ = λ k. (corner_in (with_place v i p) k).x + (corner_in (with_place v i p) k).y in
    let sums : sum_below (length v) before ≡ sum_below (length v) after + n =
    sum_grown (length v) after before i n l (rw (get_or-set_same v i p origin l) e) (λ k m c. rw (get_or-set_other v i k p origin c)) in
    rw (length-set v i p) (omega arith)

-- no pixel slid: the layout is the same
still_same : (d : Direction) (j : Job) (i : ℕ) (v : Layout) → slide_of d j i v ≡ 0 → (slide d j i v).layout ≡ v
unfolding slide
still_same d j i v e = rw (e, sub-zero, moved_same d (place_of v i), set-get_or)

-- no conflict comes of it
slide_apart : (d : Direction) (j : Job) (i : ℕ) (v : Layout) → NoConflict j v → Dec (slide_of d j i v ≡ 0) → NoConflict j (slide d j i v).layout
unfolding slide fits_at
slide_apart d j i v apart (yes e) = rw (still_same d j i v e) apart
slide_apart d j i v apart (no n) = placed_apart j v i _ (not-true _ (and_right (inside j i _) _ (slide_fits d j i v n))) apart

-- how a slide of a free piece leaves a layout
pub slide_pushed : (d : Direction) (j : Job) (i : ℕ) (v : Layout) → length v ≡ j.size.count → i < j.size.count → is_locked j i ≡ false
    → Pushed j v (slide d j i v)
unfolding slide
slide_pushed d j i v size there free =
    record {
      one_per_piece = length-set v i p;
      turns = λ k. set_keeps (λ m q. q.turn ≡ (place_of v m).turn) v i p listed (moved_turn d (place_of v i) a) k refl (ℕ_discrete k i);
      left = λ k. set_keeps (λ m q. (corner q).x ≤ (corner_in v m).x) v i p listed (moved_left d (place_of v i) a nearer) k (le_refl _) (ℕ_discrete k i);
      down = λ k. set_keeps (λ m q. (corner q).y ≤ (corner_in v m).y) v i p listed (moved_down d (place_of v i) a nearer) k (le_refl _) (ℕ_discrete k i);
      locked_stay = locked_set j v i p free;
      valid = λ h.
          valid_set j v i p h there (moved_inside d j i (place_of v i) a (h.inside_sheet i there) nearer)
          (rw (moved_turn d (place_of v i) a) (h.turn_allowed i there));
      apart = λ h. slide_apart d j i v h (ℕ_discrete (slide_of d j i v) 0);
      slid_is_fall = fallen_sum v i p (slide_of d j i v) listed (moved_fall d (place_of v i) (slide_of d j i v) (slide_first d j i v).within);
      still = still_same d j i v;
    }
  where
    a : ℕ
    a = along d (corner_in v i) - slide_of d j i v

    p : Placement
    p = slid_to d (place_of v i) a

    listed : i < length v
    listed = omega arith

    nearer : a ≤ along d (corner (place_of v i))
    nearer = omega arith
