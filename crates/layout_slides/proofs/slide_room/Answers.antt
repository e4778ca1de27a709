-- `layout_slides::slide_room`: before the first piece nothing blocks, one more piece may, and after the last the room is the slide's.
-- Assumes nothing.
use Rattle.list_laws.proofs.Kit.{◌∙◌, ◌≡◌, ap, arith}
use Rattle.model.specs.Piece.{corner}
use Rattle.model.specs.Layout.{corner_in}
use Rattle.model.specs.Lent.{lent_by, job_of}
use Rattle.model.specs.Buffer.{layout_of}
use Rattle.model.specs.declared.Placement.{Placement}
use Rattle.list_laws.proofs.Firsts.{first_begin, first_more}
use Rattle.pair_overlap.specs.Seen.{seen}
use Rattle.pair_overlap.specs.declared.Corner.{Corner}
use Rattle.layout_slides.specs.Slidable.{blocked_by}
use Rattle.layout_slides.proofs.Rooms.{entry_there, slide_room}
use Rattle.layout_slides.proofs.slide_room.Goals as goal

pub place_at-requires : goal.place_at-requires
place_at-requires c =
    entry_there _ (lent_by c.args.size c.args.table.now c.args.pixels.now) _ _ _ c.requires.fact_1 _ c.requires.fact_2

pub loop-k-init : goal.loop-k-init
loop-k-init c =
    let a = c.args in
    let e : c.corner_along-corner.result ≡ seen a.direction (corner_in (layout_of a.layout.now) a.i) =
    c.corner_along-corner.ensures ∙ ap (λ (p : Placement). seen a.direction (corner p)) c.place_at.ensures in
    first_begin (blocked_by a.direction (job_of (lent_by a.size a.table.now a.pixels.now)) (layout_of a.layout.now) a.i) _ _ (ap (λ (z : Corner). z.along) e)

pub loop-k-preserved : goal.loop-k-preserved
loop-k-preserved c =
    let a = c.args in
    first_more (blocked_by a.direction (job_of (lent_by a.size a.table.now a.pixels.now)) (layout_of a.layout.now) a.i) c.loop-k.k _ c.loop-k.room _
    c.loop-k.invariant c.room_beside-room.ensures

pub returns : goal.returns
unfolding job_of
returns c =
    let a = c.args in
    let whole = c.requires.fact_1.laid.whole in
    let all : c.loop-k.k ≡ a.size.count = omega arith in
    slide_room a.direction (job_of (lent_by a.size a.table.now a.pixels.now)) (layout_of a.layout.now) a.i c.loop-k.room
    (c.requires.fact_1.laid.valid.inside_sheet a.i c.requires.fact_2) (rw all at c.loop-k.invariant)
