-- `cut_owners::paint`: each byte is the owner of its pixel among the pieces passed. Assumes nothing.
use Rattle.model.specs.Buffer.{layout_of}
use Rattle.model.specs.Lent.{lent_by, job_of}
use Rattle.cut_owners.proofs.Painting.{PaintedBelow}
use Rattle.cut_owners.proofs.paint.Given as goal

abbrev pub invariant-loop-piece : goal.invariant-loop-piece
invariant-loop-piece l = PaintedBelow (job_of (lent_by l.size l.table l.pixels)) (layout_of l.layout) l.piece l.owners
