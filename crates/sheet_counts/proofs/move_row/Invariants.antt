-- `sheet_counts::move_row`: what the columns that are left make of the present counts is what all columns make of the first ones.
-- Assumes nothing.
use Rattle.list_laws.proofs.Kit.{◌≡◌, ◌-◌}
use Rattle.sheet_counts.specs.Stamp.{moved_run, on_at}
use Rattle.sheet_counts.proofs.move_row.Given as goal

abbrev pub invariant-loop-x : goal.invariant-loop-x
invariant-loop-x l =
    moved_run l.change (on_at l.pixels l.piece l.y) l.from l.counts l.x (l.width - l.x)
    ≡ moved_run l.change (on_at l.pixels l.piece l.y) l.from l.initial.counts 0 l.width
