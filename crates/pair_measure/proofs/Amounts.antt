-- What is measured of two pieces, cut off at a bound, is what the documents measure: no depth is above 263, and a depth cut off at 1 tells
-- whether they conflict. Assumes nothing.
use Rattle.list_laws.proofs.Kit.{◌∙◌, ◌≡◌, sym, ⊎_elim, List, ◌<◌, ◌≤◌, min, ℕ, eq-zero-or-pos, arith, eqb, eq-eqb, eqb-true}
use Rattle.model.specs.Piece.{Point, Shape, corner, gap_bound}
use Rattle.model.specs.Overlap.{conflict, conflict_depth, conflict_penalty}
use Rattle.model.specs.Layout.{Job, turned_piece}
use Rattle.model.specs.Lent.{lent_by, job_of}
use Rattle.model.specs.declared.JobSize.{JobSize}
use Rattle.model.specs.declared.Placement.{Placement}
use Rattle.model.specs.declared.Direction.{Direction}
use Rattle.model.specs.declared.Direction.TheVariants.{Horizontal, Vertical}
use Rattle.list_laws.proofs.Tests.{same_tests, clash, passes}
use Rattle.overlap_laws.specs.Grown.{grown}
use Rattle.overlap_laws.proofs.Depth.{depth_zero, zero_depth}
use Rattle.overlap_laws.proofs.Grown.{conflict_grown, depth_grown}
use Rattle.overlap_laws.proofs.Penalty.{conflict_bound}
use Rattle.overlap_laws.proofs.Largest.{penalty_largest}
use Rattle.pair_measure.specs.Ready.{MeasureReady, Together}
use Rattle.pair_measure.proofs.Stores.{piece_extent, piece_area}

-- what is cut off at 264 is at most 264
pub depth_cut_low : (k r : ℕ) → r ≡ min k 264 → r ≤ 264
depth_cut_low k r e = omega arith

-- a depth cut off at 1 is 1 exactly where they conflict
pub depth_conflicts : (g : ℕ) (d : Direction) (s : Shape) (u : Point) (t : Shape) (v : Point) → eqb (min (conflict_depth g d s u t v) 1) 1 ≡ conflict g s u t v
depth_conflicts g d s u t v =
    same_tests _ _
    (λ e.
    passes (conflict g s u t v)
    (λ f.
    let z = depth_grown g d s u t v ∙ depth_zero d (grown g s) u (grown g t) v (sym (conflict_grown g s u t v) ∙ f) in
    omega (arith, eqb-true (min (conflict_depth g d s u t v) 1) 1 e)))
    (λ e.
    eq-eqb (min (conflict_depth g d s u t v) 1) 1
    (⊎_elim
    (λ (z : conflict_depth g d s u t v ≡ 0).
    absurd (clash e (conflict_grown g s u t v ∙ zero_depth d (grown g s) u (grown g t) v (sym (depth_grown g d s u t v) ∙ z))))
    (λ (z : 0 < conflict_depth g d s u t v). omega arith)
    (eq-zero-or-pos (conflict_depth g d s u t v))))

-- the lesser of two numbers
cut : (a b m n : ℕ) → m ≡ a → n ≡ min b m → n ≡ min a b
cut a b m n e f = omega arith

-- the pieces of a job, as far as they are measured
abbrev measured : {A : Type 0} → (Shape → Point → Shape → Point → A) → Job → ℕ → Placement → ℕ → Placement → A
measured f j i p k q = f (turned_piece j i p.turn) (corner p) (turned_piece j k q.turn) (corner q)

module _ (g : ℕ) (few : g ≤ gap_bound) (size : JobSize) (table : List (List ℕ)) (pixels : List ℕ) (i : ℕ) (p : Placement) (r : MeasureReady table i p)
    (k : ℕ) (q : Placement) (w : MeasureReady table k q) where
  -- the depth of two ready pieces is at most 263
  pub ready_depth : (d : Direction) → measured (conflict_depth g d) (job_of (lent_by size table pixels)) i p k q ≤ 263
  ready_depth d =
      conflict_bound g _ (corner p) _ (corner q) d few (piece_extent size table pixels i r.entry p.turn d)
      (piece_extent size table pixels k w.entry q.turn d)

  -- so the bound 264 cuts nothing off
  pub ready_whole : (d : Direction) (n : ℕ) → n ≡ min (measured (conflict_depth g d) (job_of (lent_by size table pixels)) i p k q) 264
      → n ≡ measured (conflict_depth g d) (job_of (lent_by size table pixels)) i p k q
  ready_whole d n e = omega (arith, ready_depth d)

  -- and the second depth, cut off at the first, is the penalty
  pub lesser_penalty : (m n : ℕ) → m ≡ min (measured (conflict_depth g Horizontal) (job_of (lent_by size table pixels)) i p k q) 264
      → n ≡ min (measured (conflict_depth g Vertical) (job_of (lent_by size table pixels)) i p k q) m
      → n ≡ measured (conflict_penalty g) (job_of (lent_by size table pixels)) i p k q
  unfolding conflict_penalty
  lesser_penalty m n e f =
      let a = measured (conflict_depth g Horizontal) (job_of (lent_by size table pixels)) i p k q in
      let b = measured (conflict_depth g Vertical) (job_of (lent_by size table pixels)) i p k q in
      let h : m ≡ a = ready_whole Horizontal m e in
      cut a b m n h f

  -- the penalty of two different pieces of a job is at most 199
  pub ready_penalty : Together table i k → measured (conflict_penalty g) (job_of (lent_by size table pixels)) i p k q ≤ 199
  ready_penalty together =
      penalty_largest g _ (corner p) _ (corner q) few
      (piece_extent size table pixels i r.entry p.turn Horizontal) (piece_extent size table pixels i r.entry p.turn Vertical)
      (piece_extent size table pixels k w.entry q.turn Horizontal) (piece_extent size table pixels k w.entry q.turn Vertical)
      (omega (arith, piece_area size table pixels i r.entry p.turn Horizontal, piece_area size table pixels k w.entry q.turn Horizontal))

-- what is measured of placements that a layout gives
pub placed_at : {A : Type 0} (f : Shape → Point → Shape → Point → A) (j : Job) (i : ℕ) (p p' : Placement) (k : ℕ) (q q' : Placement) → p ≡ p' → q ≡ q'
    → measured f j i p k q ≡ measured f j i p' k q'
placed_at f j i p p' k q q' a b = λ t. measured f j i (a t) k (b t)
