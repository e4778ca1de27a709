-- `layout_slides::slide_room`: the room is how far the piece slides before one of the pieces passed blocks it. Assumes nothing.
use Rattle.model.specs.Bounded.{any_below}
use Rattle.model.specs.Piece.{along}
use Rattle.model.specs.Layout.{corner_in}
use Rattle.model.specs.Lent.{lent_by, job_of}
use Rattle.model.specs.Buffer.{layout_of}
use Rattle.list_laws.proofs.Firsts.{FirstBelow}
use Rattle.layout_slides.specs.Slidable.{blocked_by}
use Rattle.layout_slides.proofs.slide_room.Given as goal

abbrev pub invariant-loop-k : goal.invariant-loop-k
invariant-loop-k l =
    FirstBelow (λ m. any_below l.k (λ q. blocked_by l.direction (job_of (lent_by l.size l.table l.pixels)) (layout_of l.layout) l.i q m))
    (along l.direction (corner_in (layout_of l.layout) l.i)) l.room
