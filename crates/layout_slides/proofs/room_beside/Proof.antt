-- `layout_slides::room_beside` meets its contract: a piece does not block itself, and the strips and boxes of two pieces tell how far the one slides
-- before the other blocks it. Assumes nothing.
use Rattle.list_laws.proofs.Kit.{◌∙◌, ◌≡◌, ap, subst, sym, arith, length-map}
use Rattle.model.specs.Piece.{along}
use Rattle.model.specs.Lent.{Lent, lent_by, job_of}
use Rattle.model.specs.Buffer.{layout_of}
use Rattle.model.specs.Layout.{shape_in, corner_in}
use Rattle.job_laws.proofs.Checked.{facts}
use Rattle.pair_overlap.specs.Meet.{Ordered}
use Rattle.pair_overlap.specs.declared.Corner.{Corner}
use Rattle.layout_slides.proofs.Rooms.{entry_there, row_there, span_there, strips_stand, strips_ordered, box_near, not_itself, blocked_first}
use Rattle.layout_slides.proofs.room_beside.Statement.{statement}
use Rattle.layout_slides.proofs.room_beside.Tie as tie

-- the lent job
abbrev lent : tie.Start → Lent
lent s = lent_by s.args.size s.args.table.now s.args.pixels.now

returns-then-k-i : tie.Need-returns-then-k-i
returns-then-k-i c =
    let s : tie.Start = search in
    let a = s.args in
    not_itself a.direction (job_of (lent s)) (layout_of a.layout.now) a.i a.k c.if-k-i.true a.bound

box_at-mover-requires : tie.Need-box_at-mover-requires
box_at-mover-requires c κs =
    let s : tie.Start = search in
    let h = s.requires.0 in
    let i = s.requires.1.0.0 in
    (row_there _ (lent s) _ _ _ h _ i, entry_there _ (lent s) _ _ _ h _ i)

box_at-standing-requires : tie.Need-box_at-standing-requires
box_at-standing-requires c κs =
    let s : tie.Start = search in
    let h = s.requires.0 in
    let k = s.requires.1.0.1 in
    (row_there _ (lent s) _ _ _ h _ k, entry_there _ (lent s) _ _ _ h _ k)

strips_of-requires : tie.Need-strips_of-requires
strips_of-requires c κs = let s : tie.Start = search in span_there _ (lent s) _ _ _ s.requires.0 _ s.requires.1.0.0

strips_of-requires-2 : tie.Need-strips_of-requires-2
strips_of-requires-2 c κs = let s : tie.Start = search in span_there _ (lent s) _ _ _ s.requires.0 _ s.requires.1.0.1

overflow_cast-size : tie.Need-overflow_cast-size
overflow_cast-size c = let s : tie.Start = search in let few = (facts (lent s) s.requires.0.laid.well).small_gap in omega arith

room_before-requires : tie.Need-room_before-requires
room_before-requires c κs =
    let s : tie.Start = search in
    let first : tie.After-box_at-mover = search in
    let second : tie.After-box_at-standing = search in
    let own : tie.After-strips_of = search in
    let other : tie.After-strips_of-2 = search in
    let a = s.args in
    let l = lent s in
    let h = s.requires.0 in
    let i = s.requires.1.0.0 in
    let k = s.requires.1.0.1 in
    let p = first.box_at-mover.ensures in
    let q = second.box_at-standing.ensures in
    let shown = p.0 a.size a.pixels.now in
    let e : first.box_at-mover.result.corner.along ≡ along a.direction (corner_in (layout_of a.layout.now) a.i) =
    ap (λ (z : Corner). z.along) shown.corner in (
      subst Ordered (sym own.strips_of.ensures) (strips_ordered _ l _ _ _ h _ i),
      (
        subst Ordered (sym other.strips_of-2.ensures) (strips_ordered _ l _ _ _ h _ k),
        (
          (
            box_near _ l _ _ _ h _ i _ shown p.1.0 p.1.1,
            box_near _ l _ _ _ h _ k _ (q.0 a.size a.pixels.now) q.1.0 q.1.1,
          ),
          ((facts l h.laid.well).small_gap, rw e s.requires.1.1),
        ),
      ),
    )

returns : tie.Need-returns
unfolding job_of
returns c =
    let s : tie.Start = search in
    let first : tie.After-box_at-mover = search in
    let second : tie.After-box_at-standing = search in
    let own : tie.After-strips_of = search in
    let other : tie.After-strips_of-2 = search in
    let split : tie.Else-k-i = search in
    let a = s.args in
    let l = lent s in
    let h = s.requires.0 in
    let i = s.requires.1.0.0 in
    let k = s.requires.1.0.1 in
    let v = layout_of a.layout.now in
    let n = h.laid.whole in
    c.room_before.ensures a.direction (shape_in (job_of l) v a.i) (corner_in v a.i) (shape_in (job_of l) v a.k) (corner_in v a.k)
    (own.strips_of.ensures ∙ strips_stand _ l _ _ _ h _ i) (other.strips_of-2.ensures ∙ strips_stand _ l _ _ _ h _ k)
    (first.box_at-mover.ensures.0 a.size a.pixels.now) (second.box_at-standing.ensures.0 a.size a.pixels.now)
    ∙ blocked_first a.direction (job_of l) v a.i a.k (simp length-map (omega arith)) split.if-k-i.false a.bound

pub room_beside_spec : {M : Type 1} → statement M
room_beside_spec =
    tie.close (tie.spec
    returns-then-k-i box_at-mover-requires box_at-standing-requires strips_of-requires strips_of-requires-2 overflow_cast-size room_before-requires
    returns)
