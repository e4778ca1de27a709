-- `layout_sum_calls::check` meets its contract: the causes of the layout refuse, or the first pair that conflicts does. Assumes nothing.
use Rattle.list_laws.proofs.Exits.{handed_on}
use Rattle.list_laws.proofs.Kit.{◌∙◌, ap, sym, [], ◌∷◌}
use Rattle.model.specs.Answers.{done_answer}
use Rattle.model.specs.Layout.{conflicting_pair}
use Rattle.model.specs.Lent.{lent_by, job_of}
use Rattle.model.specs.Buffer.{layout_of}
use Rattle.model.specs.Calls.{layout_causes, conflict_cause, check_call}
use Rattle.job_laws.proofs.Checked.{facts}
use Rattle.text_laws.proofs.Causes.{passed_none, none_then, refused_then}
use Rattle.causes.proofs.Passed.{layout_laid}
use Rattle.layout_strips.proofs.Keeping.{laid_drawable}
use Rattle.layout_sum_calls.specs.Answers.{conflict_answer}
use Rattle.layout_sum_calls.proofs.Checks.{conflict_check}
use Rattle.layout_sum_calls.proofs.check.Goals as goal

pub returns-in_err-layout_causes : goal.returns-in_err-layout_causes
unfolding check_call
returns-in_err-layout_causes c =
    let l = lent_by c.args.size c.args.table.now c.args.pixels.now in
    let conflict = conflict_cause (conflicting_pair (job_of l) (layout_of c.args.layout.now)) in
    handed_on _ _ c.from_residual.ensures.1
    ∙ sym (ap done_answer (refused_then (layout_causes l c.args.layout.now) (conflict ∷ []) tt _ c.in_err-layout_causes.ensures))

pub conflicting_pair-requires : goal.conflicting_pair-requires
conflicting_pair-requires c =
    let l = lent_by c.args.size c.args.table.now c.args.pixels.now in
    let laid = layout_laid l c.args.layout.now (passed_none _ c.in_ok-layout_causes.ensures) in
    record { fact_1 = laid_drawable l c.args.layout.now laid; fact_2 = (facts l laid.well).small_gap }

pub returns : goal.returns
unfolding check_call
returns c =
    let l = lent_by c.args.size c.args.table.now c.args.pixels.now in
    let none = passed_none _ c.in_ok-layout_causes.ensures in
    let pair = conflicting_pair (job_of l) (layout_of c.args.layout.now) in
    c.conflict_answer.ensures
    ∙ ap conflict_answer (c.conflicting_pair.ensures (sym (layout_laid l c.args.layout.now none).whole))
    ∙ conflict_check pair
    ∙ sym (ap done_answer (none_then (layout_causes l c.args.layout.now) (conflict_cause pair ∷ []) tt none))
