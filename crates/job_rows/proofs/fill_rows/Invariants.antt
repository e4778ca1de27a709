-- `job_rows::fill_rows`: storing the rows that are left, behind those that are stored, is what is left of storing all. Assumes nothing.
use Rattle.list_laws.proofs.Kit.{◌≡◌, ◌*◌, ◌+◌, ◌-◌, ◌≤◌, length}
use Rattle.job_rows.proofs.Marks.{fill_rows}
use Rattle.job_rows.proofs.fill_rows.Given as goal

abbrev pub invariant-loop-y : goal.invariant-loop-y
invariant-loop-y l =
    record {
      inside : l.next ≤ length l.text;
      same :
          fill_rows l.text l.l (l.w - l.y) l.next (l.line + l.y) (l.at + l.y * l.l) l.pixels
          ≡ fill_rows l.text l.l l.w l.p l.line l.at l.initial.pixels;
    }
