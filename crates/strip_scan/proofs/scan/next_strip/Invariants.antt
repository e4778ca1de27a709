-- `strip_scan::scan::next_strip`: the strips from the present cell on are those from the given cell on, since the lines between have no pixel
-- left. Assumes nothing.
use Rattle.list_laws.proofs.Kit.{◌≡◌, ◌≤◌}
use Rattle.piece_pixels.specs.Turned.{shown_by}
use Rattle.strip_scan.specs.Scan.{strips_at}
use Rattle.strip_scan.proofs.scan.next_strip.Given as goal

abbrev pub invariant-loop-line : goal.invariant-loop-line
invariant-loop-line l =
    record {
      within : l.along ≤ l.length;
      left : strips_at l.direction (shown_by l.pixels l.piece) l.line l.along ≡ strips_at l.direction (shown_by l.pixels l.piece) l.fn.line l.fn.along;
    }
