-- `withdraw_from`: where no cause refuses, moving the pixels of the piece down where its entry says that it lies is the sheet's withdraw. A laid entry of a sheet
-- that passed its test is inside. Assumes nothing.
use Rattle.list_laws.proofs.Exits.{handed_on}
use Rattle.list_laws.proofs.Kit.{◌∙◌, ap, sym, arith}
use Rattle.model.specs.Lent.{lent_by, job_of}
use Rattle.model.specs.Calls.{withdraw_call, counts_after}
use Rattle.model.specs.Cover.{withdraw, withdraw_causes}
use Rattle.job_laws.proofs.Checked.{facts}
use Rattle.sheet_refusals.specs.Causes.{sheet_of}
use Rattle.sheet_calls.specs.Answers.{record_answer}
use Rattle.sheet_calls.proofs.Outcomes.{sheet_ready, sheet_refused, own_refused, none_given, withdraw_order, withdrawn_inside, moved_withdraws}
use Rattle.sheet_calls.proofs.withdraw_from.Goals as goal

pub returns-in_err-sheet_refusal : goal.returns-in_err-sheet_refusal
unfolding withdraw_call
returns-in_err-sheet_refusal c =
    let a = c.args in
    let l = lent_by a.size a.table.now a.pixels.now in
    let s = sheet_of a.sheet a.counts.now in
    let o = sheet_refused l s (withdraw_causes (job_of l) s a.piece) (withdraw (job_of l) s a.piece) _ c.in_err-sheet_refusal.ensures in
    let e = handed_on _ _ c.from_residual.ensures.1 in
    record { value = e ∙ sym (ap record_answer o); counts_after = sym (ap (counts_after a.counts.now) o) }

pub withdraw_refusal-requires : goal.withdraw_refusal-requires
withdraw_refusal-requires c =
    let a = c.args in
    let f = facts _ (sheet_ready (lent_by a.size a.table.now a.pixels.now) (sheet_of a.sheet a.counts.now) c.in_ok-sheet_refusal.ensures).well in
    (f.entries, f.few_pieces)

pub returns-in_err-withdraw_refusal : goal.returns-in_err-withdraw_refusal
unfolding withdraw_call
returns-in_err-withdraw_refusal c =
    let a = c.args in
    let l = lent_by a.size a.table.now a.pixels.now in
    let s = sheet_of a.sheet a.counts.now in
    let o =
    own_refused l s (withdraw_causes (job_of l) s a.piece) (withdraw (job_of l) s a.piece) _ c.in_ok-sheet_refusal.ensures
    (c.in_err-withdraw_refusal.ensures a.pixels.now a.counts.now) in
    let e = handed_on _ _ c.from_residual-in_err-withdraw_refusal.ensures.1 in
    record { value = e ∙ sym (ap record_answer o); counts_after = sym (ap (counts_after a.counts.now) o) }

pub entry_of-entry-requires : goal.entry_of-entry-requires
unfolding job_of
entry_of-entry-requires c =
    let a = c.args in
    let l = lent_by a.size a.table.now a.pixels.now in
    let s = sheet_of a.sheet a.counts.now in
    let few = (facts _ (sheet_ready l s c.in_ok-sheet_refusal.ensures).well).few_pieces in
    let here = (withdraw_order (job_of l) s a.piece (c.in_ok-withdraw_refusal.ensures a.pixels.now a.counts.now)).lies.piece in
    omega arith

pub move_piece-requires : goal.move_piece-requires
unfolding job_of
move_piece-requires c =
    let a = c.args in
    let l = lent_by a.size a.table.now a.pixels.now in
    let s = sheet_of a.sheet a.counts.now in
    let ready = sheet_ready l s c.in_ok-sheet_refusal.ensures in
    let own = withdraw_order (job_of l) s a.piece (c.in_ok-withdraw_refusal.ensures a.pixels.now a.counts.now) in
    record {
      well = ready.well;
      piece = own.lies.piece;
      within = withdrawn_inside (job_of l) s a.piece _ c.entry_of-entry.ensures ready.sheet own.lies;
      full = ready.full;
    }

pub with_entry-requires : goal.with_entry-requires
unfolding job_of
with_entry-requires c =
    let a = c.args in
    let l = lent_by a.size a.table.now a.pixels.now in
    let s = sheet_of a.sheet a.counts.now in
    let few = (facts _ (sheet_ready l s c.in_ok-sheet_refusal.ensures).well).few_pieces in
    let here = (withdraw_order (job_of l) s a.piece (c.in_ok-withdraw_refusal.ensures a.pixels.now a.counts.now)).lies.piece in
    omega arith

pub returns : goal.returns
unfolding withdraw_call withdraw job_of
returns c =
    let a = c.args in
    let l = lent_by a.size a.table.now a.pixels.now in
    let s = sheet_of a.sheet a.counts.now in
    let o =
    none_given l s (withdraw_causes (job_of l) s a.piece) (withdraw (job_of l) s a.piece) c.in_ok-sheet_refusal.ensures
    (c.in_ok-withdraw_refusal.ensures a.pixels.now a.counts.now) in
    record {
      value = rw (c.with_entry.ensures, c.origin-off.ensures) (sym (ap record_answer o));
      counts_after =
          c.move_piece.ensures ∙ moved_withdraws (job_of l) a.piece s _ c.entry_of-entry.ensures ∙ sym (ap (counts_after a.counts.now) o);
    }
