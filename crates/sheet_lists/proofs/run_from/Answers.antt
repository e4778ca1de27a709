-- `sheet_lists::run_from`: a sheet that is ready is so after a call, and the call is the first of those that were left. Assumes nothing.
use Rattle.list_laws.proofs.Kit.{◌∙◌, ◌≡◌, ap, subst, sym, [], ◌+◌, drop, get_or}
use Rattle.model.specs.Cover.{Sheet, called, afterwards, after_calls}
use Rattle.model.specs.Lent.{lent_by, job_of}
use Rattle.sheet_calls.specs.Ready.{SheetReady}
use Rattle.sheet_refusals.specs.Causes.{sheet_of}
use Rattle.sheet_lists.specs.CallList.{call_of, calls_of}
use Rattle.sheet_lists.proofs.CallLists.{ready_after, calls_step, calls_end}
use Rattle.sheet_lists.proofs.run_from.Goals as goal

pub loop-call-preserved : goal.loop-call-preserved
loop-call-preserved c =
    let a = c.args in
    let l = lent_by a.size a.table.now a.pixels.now in
    let now = c.loop-call in
    let s = sheet_of now.sheet now.counts in
    let call = call_of (get_or a.calls.now now.call-index []) in
    let after : sheet_of c.run_call-sheet.result c.run_call-sheet.new.counts ≡ afterwards s (called (job_of l) s call) = c.run_call-sheet.ensures in
    record {
      ready = subst (λ (t : Sheet). SheetReady l t) (sym after) (ready_after l s now.invariant.ready call);
      left = ap (λ (t : Sheet). after_calls (job_of l) t (calls_of (drop (now.call-index + 1) a.calls.now))) after
          ∙ sym (calls_step (job_of l) s a.calls.now now.call-index c.loop-call-test.true) ∙ now.invariant.left;
    }

pub returns : goal.returns
returns c =
    let a = c.args in
    let l = lent_by a.size a.table.now a.pixels.now in
    let now = c.loop-call in
    sym (calls_end (job_of l) (sheet_of now.sheet now.counts) a.calls.now now.call-index c.loop-call-test.false) ∙ now.invariant.left
