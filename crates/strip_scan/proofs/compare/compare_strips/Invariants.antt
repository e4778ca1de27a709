-- `strip_scan::compare::compare_strips`: comparing the strips from the present cell on decides it. Assumes nothing.
use Rattle.list_laws.proofs.Kit.{◌≤◌, length}
use Rattle.model.specs.Strip.{strips}
use Rattle.piece_pixels.specs.Turned.{shown_by}
use Rattle.strip_scan.specs.Scan.{turned_side, strips_at}
use Rattle.strip_scan.proofs.Comparing.{Comparing}
use Rattle.strip_scan.proofs.compare.compare_strips.Given as goal

abbrev pub invariant-loop-found : goal.invariant-loop-found
invariant-loop-found l =
    record {
      within : l.along ≤ turned_side l.direction l.piece;
      left : Comparing (strips l.direction (shown_by l.pixels l.piece)) l.store l.fn.at l.at (strips_at l.direction (shown_by l.pixels l.piece) l.line l.along);
    }

abbrev pub decreases-loop-found : goal.decreases-loop-found
decreases-loop-found l = length (strips_at l.direction (shown_by l.pixels l.piece) l.line l.along)
