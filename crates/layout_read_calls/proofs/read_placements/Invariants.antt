-- `layout_read_calls::read_placements`: what is read so far is at the front of the buffer, and what is left decides the whole (`ReadProgress`).
-- Assumes nothing.
use Rattle.list_laws.proofs.Kit.{◌≡◌, ◌+◌, ◌≤◌, length}
use Rattle.model.specs.Lent.{job_of, lent_by}
use Rattle.layout_read_calls.proofs.Progress.{ReadProgress}
use Rattle.layout_read_calls.proofs.read_placements.Given as goal

abbrev pub invariant-loop-i : goal.invariant-loop-i
invariant-loop-i l =
    record {
      inside : l.at ≤ length l.text;
      line : l.line ≡ l.i + 2;
      progress :
          ReadProgress (λ pixels. job_of (lent_by l.size l.table pixels)) l.size.count l.text l.p l.initial.layout l.layout l.at l.line l.i;
    }
