-- How far a placed piece slides back before it conflicts with another: not at all hindered where the boxes stay farther apart than the gap, else as far
-- as the slide over the strips tells, since sliding the first piece back is sliding the second one on. Assumes nothing.
use Rattle.list_laws.proofs.Kit.{◌∙◌, ◌≡◌, ap, Bool, ◌&&◌, false, List, ◌+◌, ◌-◌, ◌<◌, ◌≤◌, ℕ, arith, ltb, lt-ltb, ltb-true}
use Rattle.model.specs.Bounded.{first_from}
use Rattle.model.specs.Piece.{Point, Shape, along, across, point, shift, extent, other}
use Rattle.model.specs.Overlap.{conflict}
use Rattle.model.specs.declared.Direction.{Direction}
use Rattle.list_laws.proofs.Firsts.{first_none, first_agree}
use Rattle.list_laws.proofs.Tests.{and_both, and_left, and_right, clash, fails}
use Rattle.overlap_laws.proofs.Apart.{boxes_apart}
use Rattle.overlap_laws.proofs.Share.{along_point, across_point, along_shift, across_shift, across_other}
use Rattle.pair_overlap.specs.Meet.{shifted}
use Rattle.pair_overlap.proofs.Shapes.{entries, seen, seen_shift}
use Rattle.pair_overlap.specs.declared.Corner.{Corner}
use Rattle.pair_slide.specs.Meeting.{meets_below}
use Rattle.pair_slide.specs.Boxes.{BoxOf}
use Rattle.pair_slide.specs.declared.PlacedBox.{PlacedBox}
use Rattle.pair_slide.proofs.Shapes.{entries_meets, slid_back}

-- two shifts are one
shift_twice : (d : Direction) (k : ℕ) (v : Point) → shift d k (shift d 1 v) ≡ shift d (1 + k) v
shift_twice d k v =
    let a : along d (shift d 1 v) + k ≡ along d v + (1 + k) = omega (arith, along_shift d 1 v) in
    ap (λ (z : ℕ). point d z (across d (shift d 1 v))) a ∙ ap (λ (z : ℕ). point d (along d v + (1 + k)) z) (across_shift d 1 v)

module _ (g : ℕ) (d : Direction) (s : Shape) (u : Point) (t : Shape) (v : Point) (bound : ℕ) (h : bound ≤ along d u) where
  -- the first piece's corner, slid back by m pixels and one more
  abbrev back : ℕ → Point
  back m = point d (along d u - 1 - m) (across d u)

  -- they conflict then
  abbrev blocks : ℕ → Bool
  blocks m = conflict g s (back m) t v

  -- boxes in lines that are farther apart
  pub room_across : (ltb (across d u) (across d v + extent (other d) t + g) && ltb (across d v) (across d u + extent (other d) s + g)) ≡ false
      → bound ≡ first_from blocks 0 bound
  room_across e =
      first_none blocks bound
      (λ m l.
      boxes_apart g (other d) s (back m) t v
      (rw (across_other d (back m), across_other d v, across_point d (along d u - 1 - m) (across d u)) e))

  -- boxes that stay farther apart along the strips
  pub room_along : (ltb (along d u - bound) (along d v + extent d t + g) && ltb (along d v) (along d u - bound + (extent d s + bound) + g)) ≡ false
      → bound ≡ first_from blocks 0 bound
  room_along e =
      first_none blocks bound
      (λ m l.
      let a : along d (back m) ≡ along d u - 1 - m = along_point d (along d u - 1 - m) (across d u) in
      boxes_apart g d s (back m) t v
      (fails _
      (λ both.
      let p : along d (back m) < along d v + extent d t + g = ltb-true _ _ (and_left _ _ both) in
      let q : along d v < along d (back m) + extent d s + g = ltb-true _ _ (and_right (ltb (along d (back m)) (along d v + extent d t + g)) _ both) in
      clash
      (and_both (lt-ltb (along d u - bound) (along d v + extent d t + g) (omega arith))
      (lt-ltb (along d v) (along d u - bound + (extent d s + bound) + g) (omega arith))) e)))

  -- the slide over the strips, the second piece one pixel on
  pub room_slid : meets_below g (entries d s) (seen d u) (entries d t) (shifted 1 (seen d v)) bound ≡ first_from blocks 0 bound
  room_slid =
      ap (λ c. meets_below g (entries d s) (seen d u) (entries d t) c bound) (seen_shift d 1 v)
      ∙ entries_meets g d s u t (shift d 1 v) bound
      ∙ first_agree _ blocks bound
      (λ k l.
      ap (conflict g s u t) (shift_twice d k v)
      ∙ slid_back g d s u t v (1 + k) (omega arith)
      ∙ (let e : along d u - (1 + k) ≡ along d u - 1 - k = omega arith in ap (λ (z : ℕ). conflict g s (point d z (across d u)) t v) e))

-- ── by boxes ──

module _ (g : ℕ) (d : Direction) (s : Shape) (u : Point) (t : Shape) (v : Point) (p q : PlacedBox) (first : BoxOf d s u p) (second : BoxOf d t v q)
    (bound : ℕ) (h : bound ≤ p.corner.along)
  where
    -- the corner along the direction
    near : bound ≤ along d u
    near = let e : p.corner.along ≡ along d u = ap (λ (c : Corner). c.along) first.corner in omega arith

    -- boxes in lines that are farther apart
    pub boxes_across : (ltb p.corner.across (q.corner.across + q.lines + g) && ltb q.corner.across (p.corner.across + p.lines + g)) ≡ false
        → bound ≡ first_from (λ m. conflict g s (point d (along d u - 1 - m) (across d u)) t v) 0 bound
    boxes_across e = room_across g d s u t v bound near (rw (first.corner, second.corner, first.lines, second.lines) at e)

    -- boxes that stay farther apart along the strips
    pub boxes_along : (ltb (p.corner.along - bound) (q.corner.along + q.length + g) && ltb q.corner.along (p.corner.along - bound + (p.length + bound) + g)) ≡ false
        → bound ≡ first_from (λ m. conflict g s (point d (along d u - 1 - m) (across d u)) t v) 0 bound
    boxes_along e = room_along g d s u t v bound near (rw (first.corner, second.corner, first.length, second.length) at e)

    -- the slide over the strips
    pub boxes_slid : (es fs : List (List ℕ)) → es ≡ entries d s → fs ≡ entries d t → meets_below g es p.corner fs (shifted 1 q.corner) bound
        ≡ first_from (λ m. conflict g s (point d (along d u - 1 - m) (across d u)) t v) 0 bound
    boxes_slid es fs a b = rw (a, b, first.corner, second.corner) (room_slid g d s u t v bound near)
