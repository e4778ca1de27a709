-- `cut_step`: the causes refuse in the request's order, or the step is the listed one. Assumes nothing.
use Rattle.list_laws.proofs.Exits.{handed_on}
use Rattle.list_laws.proofs.Kit.{◌∙◌, ap, sym, arith}
use Rattle.model.specs.Lent.{lent_by}
use Rattle.cut_step_calls.specs.Answers.{step_answer}
use Rattle.cut_step_calls.proofs.Steps.{step_refused, step_passed, step_none, step_answered}
use Rattle.cut_step_calls.proofs.cut_step.Goals as goal

pub returns-in_err-call_causes-clause-answer : goal.returns-in_err-call_causes-clause-answer
returns-in_err-call_causes-clause-answer c =
    let l = lent_by c.args.size c.args.table.now c.args.pixels.now in
    handed_on _ _ c.from_residual.ensures.1
    ∙ sym (ap step_answer (step_refused l c.args.layout.now c.args.pitch c.args.step _ _ c.pitch_wrong.ensures c.in_err-call_causes.ensures))

pub returns-in_err-call_causes-clause-claims : goal.returns-in_err-call_causes-clause-claims
returns-in_err-call_causes-clause-claims c =
    let l = lent_by c.args.size c.args.table.now c.args.pixels.now in
    step_answered l c.args.layout.now c.args.pitch c.args.step (returns-in_err-call_causes-clause-answer c)

pub listed_step-requires : goal.listed_step-requires
listed_step-requires c =
    let l = lent_by c.args.size c.args.table.now c.args.pixels.now in
    let long = c.room_for_lines-lines.ensures in
    (step_none l c.args.layout.now c.args.pitch c.args.step _ c.in_ok-call_causes.ensures, omega arith)

pub returns-clause-answer : goal.returns-clause-answer
returns-clause-answer c =
    let l = lent_by c.args.size c.args.table.now c.args.pixels.now in
    c.listed_step.ensures
    ∙ sym (ap step_answer (step_passed l c.args.layout.now c.args.pitch c.args.step _ c.pitch_wrong.ensures c.in_ok-call_causes.ensures))

pub returns-clause-claims : goal.returns-clause-claims
returns-clause-claims c =
    let l = lent_by c.args.size c.args.table.now c.args.pixels.now in
    step_answered l c.args.layout.now c.args.pitch c.args.step (returns-clause-answer c)
