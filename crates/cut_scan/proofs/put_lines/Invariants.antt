-- `cut_scan::put_lines`: what is left of the strips is those of the lines that are left. Assumes nothing.
use Rattle.list_laws.proofs.Kit.{◌*◌, ◌+◌, ◌-◌, ◌≤◌, suc}
use Rattle.model.specs.Strip.{strips_from, strips}
use Rattle.cut_scan.specs.Scan.{grid_units, Left}
use Rattle.cut_scan.proofs.put_lines.Given as goal

abbrev pub invariant-loop-line : goal.invariant-loop-line
invariant-loop-line l =
    record {
      few : l.next ≤ l.at + l.line * 4097;
      left : Left l.direction l.initial.lines l.at
          (strips_from l.direction (grid_units l.direction l.owners l.grid) l.line (suc l.grid.lines - l.line)) l.lines l.next
          (strips l.direction (grid_units l.direction l.owners l.grid));
    }
