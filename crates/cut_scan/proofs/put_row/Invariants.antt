-- `cut_scan::put_row`: what is left of the line's strips is what the units that are left make. Assumes nothing.
use Rattle.list_laws.proofs.Kit.{◌+◌, ◌≤◌}
use Rattle.cut_scan.specs.Scan.{row_from, Left}
use Rattle.cut_scan.proofs.put_row.Given as goal

abbrev pub invariant-loop-a : goal.invariant-loop-a
invariant-loop-a l =
    record {
      run_passed : l.run ≤ l.a;
      few : l.next ≤ l.at + l.a;
      left : Left l.direction l.initial.lines l.at (row_from l.owners l.grid l.line l.a l.run) l.lines l.next (row_from l.owners l.grid l.line 0 0);
    }
