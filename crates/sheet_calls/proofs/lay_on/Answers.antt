-- `lay_on`: where no cause refuses, moving the piece's pixels up is the sheet's lay, since every count is at most the number of pieces. Assumes nothing.
use Rattle.list_laws.proofs.Exits.{handed_on}
use Rattle.list_laws.proofs.Kit.{◌∙◌, ap, sym, arith}
use Rattle.model.specs.Lent.{lent_by, job_of}
use Rattle.model.specs.Calls.{lay_call, counts_after}
use Rattle.model.specs.Cover.{lay, lay_causes}
use Rattle.job_laws.proofs.Checked.{facts}
use Rattle.sheet_refusals.specs.Causes.{sheet_of}
use Rattle.sheet_calls.specs.Answers.{record_answer}
use Rattle.cover_laws.proofs.Effects.{well_bound}
use Rattle.sheet_calls.proofs.Outcomes.{sheet_ready, sheet_refused, own_refused, none_given, lay_order, moved_lays}
use Rattle.sheet_calls.proofs.lay_on.Goals as goal

pub returns-in_err-sheet_refusal : goal.returns-in_err-sheet_refusal
unfolding lay_call
returns-in_err-sheet_refusal c =
    let a = c.args in
    let l = lent_by a.size a.table.now a.pixels.now in
    let s = sheet_of a.sheet a.counts.now in
    let o = sheet_refused l s (lay_causes (job_of l) s a.piece a.place) (lay (job_of l) s a.piece a.place) _ c.in_err-sheet_refusal.ensures in
    let e = handed_on _ _ c.from_residual.ensures.1 in
    record { value = e ∙ sym (ap record_answer o); counts_after = sym (ap (counts_after a.counts.now) o) }

pub lay_refusal-requires : goal.lay_refusal-requires
lay_refusal-requires c =
    let a = c.args in
    let f = facts _ (sheet_ready (lent_by a.size a.table.now a.pixels.now) (sheet_of a.sheet a.counts.now) c.in_ok-sheet_refusal.ensures).well in
    (f.entries, f.few_pieces)

pub returns-in_err-lay_refusal : goal.returns-in_err-lay_refusal
unfolding lay_call
returns-in_err-lay_refusal c =
    let a = c.args in
    let l = lent_by a.size a.table.now a.pixels.now in
    let s = sheet_of a.sheet a.counts.now in
    let o =
    own_refused l s (lay_causes (job_of l) s a.piece a.place) (lay (job_of l) s a.piece a.place) _ c.in_ok-sheet_refusal.ensures
    (c.in_err-lay_refusal.ensures a.pixels.now a.counts.now) in
    let e = handed_on _ _ c.from_residual-in_err-lay_refusal.ensures.1 in
    record { value = e ∙ sym (ap record_answer o); counts_after = sym (ap (counts_after a.counts.now) o) }

pub move_piece-requires : goal.move_piece-requires
unfolding job_of
move_piece-requires c =
    let a = c.args in
    let l = lent_by a.size a.table.now a.pixels.now in
    let s = sheet_of a.sheet a.counts.now in
    let ready = sheet_ready l s c.in_ok-sheet_refusal.ensures in
    let order = lay_order (job_of l) s a.piece a.place (c.in_ok-lay_refusal.ensures a.pixels.now a.counts.now) in
    record { well = ready.well; piece = order.piece; within = order.within; full = ready.full }

pub with_entry-requires : goal.with_entry-requires
unfolding job_of
with_entry-requires c =
    let a = c.args in
    let l = lent_by a.size a.table.now a.pixels.now in
    let s = sheet_of a.sheet a.counts.now in
    let few = (facts _ (sheet_ready l s c.in_ok-sheet_refusal.ensures).well).few_pieces in
    let here = (lay_order (job_of l) s a.piece a.place (c.in_ok-lay_refusal.ensures a.pixels.now a.counts.now)).piece in
    omega arith

pub returns : goal.returns
unfolding lay_call lay job_of
returns c =
    let a = c.args in
    let l = lent_by a.size a.table.now a.pixels.now in
    let s = sheet_of a.sheet a.counts.now in
    let ready = sheet_ready l s c.in_ok-sheet_refusal.ensures in
    let few = (facts l ready.well).few_pieces in
    let o =
    none_given l s (lay_causes (job_of l) s a.piece a.place) (lay (job_of l) s a.piece a.place) c.in_ok-sheet_refusal.ensures
    (c.in_ok-lay_refusal.ensures a.pixels.now a.counts.now) in
    let counts =
    c.move_piece.ensures
    ∙ moved_lays (job_of l) a.piece a.place s
    (λ k h. let bound = well_bound (job_of l) few s k ready.sheet (let full = ready.full in omega arith) in omega arith) in
    record {
      value = rw c.with_entry.ensures (sym (ap record_answer o));
      counts_after = counts ∙ sym (ap (counts_after a.counts.now) o);
    }
