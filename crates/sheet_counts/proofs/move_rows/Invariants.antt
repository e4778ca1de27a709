-- `sheet_counts::move_rows`: what the rows that are left make of the present counts is what all rows make of the first ones.
-- Assumes nothing.
use Rattle.list_laws.proofs.Kit.{◌≡◌, ◌*◌, ◌+◌, ◌-◌}
use Rattle.sheet_counts.specs.Stamp.{moved_rows, on_at}
use Rattle.sheet_counts.proofs.move_rows.Given as goal

abbrev pub invariant-loop-y : goal.invariant-loop-y
invariant-loop-y l =
    record {
      begins : l.from ≡ l.first + l.y * l.sheet;
      left : moved_rows l.change (on_at l.pixels l.piece) l.sheet l.width l.counts l.from l.y (l.height - l.y)
          ≡ moved_rows l.change (on_at l.pixels l.piece) l.sheet l.width l.initial.counts l.first 0 l.height;
    }
