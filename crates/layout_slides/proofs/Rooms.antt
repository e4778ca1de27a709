-- What a slide needs of a layout and its strips, and where a piece blocks another: the moved piece keeps its turn and the others their places, so that
-- whether it is blocked is whether the two shapes conflict at the moved corner. Assumes nothing.
use Rattle.list_laws.proofs.Kit.{◌∙◌, ◌≡◌, ◌≢◌, ap, refl, subst, sym, Bool, not, ◌&&◌, true, false, List, ◌-◌, ◌<◌, ◌≤◌, ℕ, arith, eq-eqb, ne_eqb}
use Rattle.list_laws.proofs.Kit.{drop, take, get_or-set_same, get_or-set_other, length}
use Rattle.model.specs.Bounded.{any_below, first_from}
use Rattle.model.specs.Piece.{along, across, point, corner}
use Rattle.model.specs.Overlap.{conflict}
use Rattle.model.specs.Layout.{Job, Layout, inside, origin, place_of, with_place, shape_in, corner_in, pair_conflicts}
use Rattle.model.specs.Lent.{Lent, job_of}
use Rattle.model.specs.Buffer.{layout_of}
use Rattle.model.specs.Compact.{slid_to, conflicts_with_some, fits_at, slide_of}
use Rattle.model.specs.declared.Direction.{Direction}
use Rattle.model.specs.declared.Direction.TheVariants.{Horizontal, Vertical}
use Rattle.model.specs.declared.Placement.{Placement}
use Rattle.list_laws.proofs.Firsts.{FirstBelow, first_unique, first_none, first_agree}
use Rattle.list_laws.proofs.Tests.{clash, first_fails}
use Rattle.compact_laws.proofs.Slides.{moved_turn, moved_inside, slide_first}
use Rattle.pair_overlap.specs.Meet.{Ordered}
use Rattle.pair_overlap.specs.Seen.{entries, seen}
use Rattle.pair_overlap.specs.declared.Corner.{Corner}
use Rattle.pair_slide.specs.Boxes.{OnSheet, BoxOf}
use Rattle.pair_slide.specs.declared.PlacedBox.{PlacedBox}
use Rattle.descent_laws.proofs.Lent.{corner_within}
use Rattle.pair_measure.proofs.Readies.{piece_ready}
use Rattle.pair_measure.proofs.Stores.{piece_ordered}
use Rattle.layout_strips.specs.Kept.{span_start, span_end, Stands}
use Rattle.layout_strips.proofs.Keeping.{laid_drawable, made_within}
use Rattle.layout_slides.specs.Slidable.{Slidable, blocked_by}

-- ── what is at hand ──

module _ (d : Direction) (l : Lent) (es store spans : List (List ℕ)) (h : Slidable d l es store spans) (i : ℕ) (b : i < l.size.count) where
  -- the piece has an entry of the layout
  pub entry_there : i < length es
  entry_there = let n = h.laid.whole in omega arith

  -- and one of the table
  pub row_there : i < length l.table
  row_there = (piece_ready l es h.laid i b).entry.within

  -- its strips stand in the store
  stands : Stands d l.table l.pixels es store spans i
  stands = h.drawn.kept.made i entry_there (h.drawn.all i entry_there)

  -- they have a span, which ends in the store
  pub span_there : (i < length spans) × ((span_start spans i ≤ span_end spans i) × (span_end spans i ≤ length store))
  span_there =
      let few = (laid_drawable l es h.laid).few in
      let long = h.drawn.kept.long in
      let e = entry_there in (
        omega arith,
        made_within d l.table l.pixels es (laid_drawable l es h.laid) store spans h.drawn.kept i entry_there (h.drawn.all i entry_there),
      )

  -- the part of the store is the piece's strips
  pub strips_stand : take (span_end spans i - span_start spans i) (drop (span_start spans i) store) ≡ entries d (shape_in (job_of l) (layout_of es) i)
  strips_stand = stands.holds l.size

  -- in order
  pub strips_ordered : Ordered (take (span_end spans i - span_start spans i) (drop (span_start spans i) store))
  strips_ordered =
      subst Ordered (sym strips_stand)
      (piece_ordered l.size l.table l.pixels i (piece_ready l es h.laid i b).entry (place_of (layout_of es) i).turn d)

  -- and its box lies on the sheet
  pub box_near : (p : PlacedBox) → BoxOf d (shape_in (job_of l) (layout_of es) i) (corner_in (layout_of es) i) p → p.length ≤ 255 → p.lines ≤ 255 → OnSheet p
  box_near p e s t = near d refl
    where
      near : (k : Direction) → d ≡ k → OnSheet p
      near Horizontal f =
          let w = corner_within l es h.laid i b in
          let x = w.0 in
          let y = w.1 in
          let c : p.corner ≡ seen Horizontal (corner_in (layout_of es) i) = rw f at e.corner in
          let a = ap (λ (z : Corner). z.along) c in
          let o = ap (λ (z : Corner). z.across) c in
          record { along = omega arith; across = omega arith; length = s; lines = t }
      near Vertical f =
          let w = corner_within l es h.laid i b in
          let x = w.0 in
          let y = w.1 in
          let c : p.corner ≡ seen Vertical (corner_in (layout_of es) i) = rw f at e.corner in
          let a = ap (λ (z : Corner). z.along) c in
          let o = ap (λ (z : Corner). z.across) c in
          record { along = omega arith; across = omega arith; length = s; lines = t }

-- ── where a piece blocks another ──

-- the corner of a moved placement
moved_corner : (d : Direction) (p : Placement) (a : ℕ) → corner (slid_to d p a) ≡ point d a (across d (corner p))
moved_corner Horizontal p a = refl
moved_corner Vertical p a = refl

module _ (d : Direction) (j : Job) (v : Layout) (i k : ℕ) where
  -- a piece does not block itself
  pub not_itself : k ≡ i → (bound : ℕ) → bound ≡ first_from (blocked_by d j v i k) 0 bound
  unfolding blocked_by
  not_itself e bound = first_none (blocked_by d j v i k) bound (λ m l. first_fails _ (ap not (eq-eqb k i e)))

  -- another one does where the two conflict at the moved corner
  blocked_conflict : i < length v → k ≢ i → (m : ℕ)
      → conflict j.size.gap (shape_in j v i) (point d (along d (corner_in v i) - 1 - m) (across d (corner_in v i))) (shape_in j v k) (corner_in v k)
      ≡ blocked_by d j v i k m
  unfolding blocked_by pair_conflicts
  blocked_conflict b n m =
      let q = slid_to d (place_of v i) (along d (corner_in v i) - 1 - m) in
      let own : place_of (with_place v i q) i ≡ q = get_or-set_same v i q origin b in
      let others : place_of (with_place v i q) k ≡ place_of v k = get_or-set_other v i k q origin n in
      rw (ne_eqb k i n, own, others, moved_turn d (place_of v i) (along d (corner_in v i) - 1 - m), moved_corner d (place_of v i) (along d (corner_in v i) - 1 - m))

  -- so the slide until they conflict is the slide until it is blocked
  pub blocked_first : i < length v → k ≢ i → (bound : ℕ)
      → first_from
      (λ m. conflict j.size.gap (shape_in j v i) (point d (along d (corner_in v i) - 1 - m) (across d (corner_in v i))) (shape_in j v k) (corner_in v k))
      0 bound ≡ first_from (blocked_by d j v i k) 0 bound
  blocked_first b n bound = first_agree _ (blocked_by d j v i k) bound (λ m l. blocked_conflict b n m)

-- ── by all pieces ──

-- a test that is not refused twice
not_both : (a b : Bool) → a ≡ true → not (a && not b) ≡ b
not_both true true e = refl
not_both true false e = refl
not_both false b e = absurd (clash e refl)

-- a piece that slides until one of all pieces blocks it slides as far as it goes, pixel by pixel
pub slide_room : (d : Direction) (j : Job) (v : Layout) (i room : ℕ) → inside j i (place_of v i) ≡ true
    → FirstBelow (λ m. any_below j.size.count (λ q. blocked_by d j v i q m)) (along d (corner_in v i)) room → room ≡ slide_of d j i v
unfolding fits_at conflicts_with_some blocked_by
slide_room d j v i room within h =
    let a = along d (corner_in v i) in
    let f : ℕ → Bool = λ m. not (fits_at d j v i (a - 1 - m)) in
    first_unique _ a room h
    ∙ first_agree _ f a
    (λ m l.
    sym
    (not_both (inside j i (slid_to d (place_of v i) (a - 1 - m))) _ (moved_inside d j i (place_of v i) (a - 1 - m) within (omega arith))))
    ∙ sym (first_unique f a (slide_of d j i v) (slide_first d j i v))
