-- Demand 2 of the exported calls: after a fresh sheet that is not refused, for every list of lay and withdraw calls with any numbers, each
-- pixel's count in the caller's buffer is the number of laid pieces on it, and the record's buffer holds which pieces these are.
-- Why it is true: what a call leaves in the buffers is read as the sheet after it (`buffers_back`), and on a sheet that is ready an
-- exported call comes to what the definition of a list of calls says; so the buffers hold the sheet that the list gives, of which
-- `demand2_cover` speaks. Assumes nothing.
use Rattle.list_laws.proofs.Kit.{◌∙◌, ◌≡◌, ap, refl, subst, sym, Bool, false, true, List, [], ◌∷◌, ◌<◌, ℕ, arith, length, not-false}
use Rattle.model.specs.Lent.{Lent, job_of, lent_well}
use Rattle.model.specs.Refusal.{Outcome, refused, given, Cause, refusal_of, unless}
use Rattle.model.specs.Calls.{job_cause, counts_length, fresh_call}
use Rattle.model.specs.Cover.{Sheet, fresh, called, afterwards, after_calls}
use Rattle.text_laws.proofs.Outcomes.{unless_given}
use Rattle.text_laws.specs.Outcomes.{NoCause}
use Rattle.job_laws.proofs.Checked.{facts}
use Rattle.cover_laws.specs.CoverClaims.{CoverHolds}
use Rattle.cover_laws.proofs.Demand2Cover.{demand2_cover}
use Rattle.sheet_refusals.specs.Causes.{buffer_causes}
use Rattle.sheet_calls.specs.Ready.{SheetReady}
use Rattle.c_interface.specs.Replies.{reply_to}
use Rattle.c_interface.proofs.Records.{buffers_back}
use Rattle.sheet_lists.specs.Exported.{Buffers, ExportedCall, lays, withdraws, call_meant, calls_meant, sheet_held}
use Rattle.sheet_lists.specs.Exported.{exported, buffers_after, after_exported, fresh_exported, from_fresh}
use Rattle.sheet_lists.proofs.CallLists.{lay_called, withdraw_called, ready_after, fresh_ready}

-- on a ready sheet an exported call comes to what the definition of a call says
exported_called : (l : Lent) (b : Buffers) (c : ExportedCall) → SheetReady l (sheet_held b)
    → exported l b c ≡ called (job_of l) (sheet_held b) (call_meant c)
unfolding exported
exported_called l b (lays piece turn x y) ready = lay_called l (sheet_held b) ready _ _
exported_called l b (withdraws piece) ready = withdraw_called l (sheet_held b) ready piece

-- the buffers after a call hold the sheet after it
held_after : (l : Lent) (b : Buffers) (c : ExportedCall) → SheetReady l (sheet_held b)
    → sheet_held (buffers_after b (exported l b c)) ≡ afterwards (sheet_held b) (called (job_of l) (sheet_held b) (call_meant c))
held_after l b c ready =
    buffers_back b.entries b.counts (exported l b c) ∙ ap (afterwards (sheet_held b)) (exported_called l b c ready)

-- the buffers after a list of calls hold the sheet after the list
held_list : (l : Lent) (b : Buffers) (cs : List ExportedCall) → SheetReady l (sheet_held b)
    → sheet_held (after_exported l b cs) ≡ after_calls (job_of l) (sheet_held b) (calls_meant cs)
unfolding after_exported after_calls
held_list l b [] ready = refl
held_list l b (c ∷ cs) ready =
    let after = held_after l b c ready in
    let again : SheetReady l (sheet_held (buffers_after b (exported l b c))) =
    subst (λ (t : Sheet). SheetReady l t) (sym after) (ready_after l (sheet_held b) ready (call_meant c)) in
    held_list l (buffers_after b (exported l b c)) cs again ∙ ap (λ (t : Sheet). after_calls (job_of l) t (calls_meant cs)) after

-- a cause whose number is not in the reply is not there
reply_step : (t : Bool) (c : Cause) (o : Outcome Sheet) → 0 < c.number
    → (reply_to {A = Sheet} (elim t as (λ _. Outcome Sheet) [ true ↦ refused (refusal_of c) | false ↦ o ])).number ≡ 0
    → (t ≡ false) × ((reply_to o).number ≡ 0)
reply_step true c o l e = absurd (omega arith)
reply_step false c o l e = (refl, e)

-- a fresh sheet whose reply has the number 0 has no cause of refusal
fresh_absent : (l : Lent) (room : ℕ) → (reply_to (fresh_call l room)).number ≡ 0 → NoCause (buffer_causes l room)
unfolding fresh_call unless
fresh_absent l room e =
    let job = reply_step (job_cause l).there (job_cause l) (unless (counts_length l room ∷ []) (fresh (job_of l))) (omega arith) e in
    let size = reply_step (counts_length l room).there (counts_length l room) (given (fresh (job_of l))) (omega arith) job.1 in
    (job.0, (size.0, tt))

-- demand 2 of the exported calls: whatever the buffers held before, the fresh sheet's reply has the number 0, and any list of calls follows
pub exported_cover : (l : Lent) (b : Buffers) (cs : List ExportedCall) → (reply_to (fresh_exported l b)).number ≡ 0
    → CoverHolds (job_of l) (calls_meant cs) (sheet_held (from_fresh l b cs))
unfolding fresh_call job_of
exported_cover l b cs e =
    let none = fresh_absent l (length b.counts) e in
    let well : lent_well l ≡ true = not-false (lent_well l) none.0 in
    let start : sheet_held (buffers_after b (fresh_exported l b)) ≡ fresh (job_of l) =
    buffers_back b.entries b.counts (fresh_exported l b)
    ∙ ap (afterwards (sheet_held b)) (unless_given (buffer_causes l (length b.counts)) (fresh (job_of l)) none) in
    let ready : SheetReady l (sheet_held (buffers_after b (fresh_exported l b))) =
    subst (λ (t : Sheet). SheetReady l t) (sym start) (fresh_ready l well) in
    let after : sheet_held (from_fresh l b cs) ≡ after_calls (job_of l) (fresh (job_of l)) (calls_meant cs) =
    held_list l (buffers_after b (fresh_exported l b)) cs ready ∙ ap (λ (t : Sheet). after_calls (job_of l) t (calls_meant cs)) start in
    subst (λ (t : Sheet). CoverHolds (job_of l) (calls_meant cs) t) (sym after) (demand2_cover (job_of l) (facts l well).few_pieces (calls_meant cs))
