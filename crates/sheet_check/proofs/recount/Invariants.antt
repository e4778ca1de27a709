-- `sheet_check::recount`: each count is the number of the pieces passed that are laid on its pixel. Assumes nothing.
use Rattle.model.specs.Lent.{lent_by, job_of}
use Rattle.sheet_check.proofs.Recounts.{CountedBelow}
use Rattle.sheet_check.proofs.recount.Given as goal

abbrev pub invariant-loop-piece : goal.invariant-loop-piece
invariant-loop-piece l = CountedBelow (job_of (lent_by l.size l.table l.pixels)) l.sheet.pieces l.piece l.made
