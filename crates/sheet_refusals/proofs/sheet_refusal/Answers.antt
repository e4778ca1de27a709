-- `sheet_refusal`: the causes of the buffer come first; where none is there, the test of the sheet is left. Assumes nothing.
use Rattle.list_laws.proofs.Exits.{handed_on}
use Rattle.list_laws.proofs.Kit.{◌∙◌, ap, sym, not, [], ◌∷◌, length}
use Rattle.model.specs.Answers.{done_answer}
use Rattle.model.specs.Lent.{lent_by, job_of}
use Rattle.model.specs.Refusal.{cause, not_ours}
use Rattle.model.specs.Calls.{sheet_causes}
use Rattle.model.specs.Cover.{sheet_well}
use Rattle.text_laws.proofs.Causes.{none_then, refused_then, there, next, no_more}
use Rattle.sheet_refusals.specs.Causes.{sheet_of, buffer_causes}
use Rattle.sheet_refusals.proofs.Buffers.{buffer_passed}
use Rattle.sheet_refusals.proofs.sheet_refusal.Goals as goal

pub returns-in_err-buffer_refusal : goal.returns-in_err-buffer_refusal
unfolding sheet_causes
returns-in_err-buffer_refusal c =
    let l = lent_by c.args.size c.args.table.now c.args.pixels.now in
    let well = sheet_well (job_of l) (sheet_of c.args.sheet c.args.counts.now) in
    handed_on _ _ c.from_residual.ensures.1
    ∙ sym (ap done_answer
    (refused_then (buffer_causes l (length c.args.counts.now)) (cause not_ours (not well) ∷ []) tt _ c.in_err-buffer_refusal.ensures))

pub sheet_well-requires : goal.sheet_well-requires
sheet_well-requires c = let passed = buffer_passed _ _ c.in_ok-buffer_refusal.ensures in (passed.well, passed.full)

pub returns-then-not-sheet_well : goal.returns-then-not-sheet_well
unfolding sheet_causes
returns-then-not-sheet_well c =
    let l = lent_by c.args.size c.args.table.now c.args.pixels.now in
    let well = sheet_well (job_of l) (sheet_of c.args.sheet c.args.counts.now) in
    let passed = buffer_passed _ _ c.in_ok-buffer_refusal.ensures in
    c.refused.ensures
    ∙ there not_ours (not well) [] (ap not (sym c.sheet_well.ensures ∙ c.if-not-sheet_well.true))
    ∙ sym (ap done_answer (none_then (buffer_causes l (length c.args.counts.now)) (cause not_ours (not well) ∷ []) tt passed.absent))

pub returns : goal.returns
unfolding sheet_causes
returns c =
    let l = lent_by c.args.size c.args.table.now c.args.pixels.now in
    let well = sheet_well (job_of l) (sheet_of c.args.sheet c.args.counts.now) in
    let passed = buffer_passed _ _ c.in_ok-buffer_refusal.ensures in
    next not_ours (not well) [] (ap not (sym c.sheet_well.ensures ∙ c.if-not-sheet_well.false)) no_more
    ∙ sym (ap done_answer (none_then (buffer_causes l (length c.args.counts.now)) (cause not_ours (not well) ∷ []) tt passed.absent))
