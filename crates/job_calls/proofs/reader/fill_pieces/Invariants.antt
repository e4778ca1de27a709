-- `job_calls::reader::fill_pieces`: storing the pieces that are left, behind those that are stored, is what is left of storing all. Assumes nothing.
use Rattle.list_laws.proofs.Kit.{◌≡◌, ◌*◌, ◌+◌, ◌-◌, ◌≤◌, length}
use Rattle.job_lines.specs.Lines.{job_line_of}
use Rattle.job_calls.proofs.Filling.{fill_pieces}
use Rattle.job_calls.proofs.reader.fill_pieces.Given as goal

abbrev pub invariant-loop-i : goal.invariant-loop-i
invariant-loop-i l =
    record {
      inside : l.at.next ≤ length l.text;
      small : l.at.area ≤ 65536;
      line : l.at.line ≤ 2 + 256 * l.i;
      same :
          fill_pieces l.text (job_line_of l.j) (l.count - l.i) l.i l.at.area l.at.next l.at.line l.table l.pixels
          ≡ fill_pieces l.text (job_line_of l.j) l.count 0 0 l.j.next 2 l.initial.table l.initial.pixels;
    }
