-- `sheet_lists::run_from`: the calls that are left, from the present sheet, come to what all calls from the first one do. Assumes nothing.
use Rattle.list_laws.proofs.Kit.{◌≡◌, drop}
use Rattle.model.specs.Cover.{after_calls}
use Rattle.model.specs.Lent.{lent_by, job_of}
use Rattle.sheet_calls.specs.Ready.{SheetReady}
use Rattle.sheet_lists.specs.CallList.{calls_of}
use Rattle.sheet_refusals.specs.Causes.{sheet_of}
use Rattle.sheet_lists.proofs.run_from.Given as goal

abbrev pub invariant-loop-call : goal.invariant-loop-call
invariant-loop-call l =
    record {
      ready : SheetReady (lent_by l.size l.table l.pixels) (sheet_of l.sheet l.counts);
      left : after_calls (job_of (lent_by l.size l.table l.pixels)) (sheet_of l.sheet l.counts) (calls_of (drop l.call-index l.calls))
          ≡ after_calls (job_of (lent_by l.size l.table l.pixels)) (sheet_of l.initial.sheet l.initial.counts) (calls_of l.calls);
    }
