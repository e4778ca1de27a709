-- `lay`: what is given or refused is the call's answer. Assumes nothing.
use Rattle.list_laws.proofs.Kit.{◌∙◌, ap}
use Rattle.model.specs.Lent.{lent_by}
use Rattle.model.specs.Calls.{lay_call}
use Rattle.sheet_calls.specs.Answers.{answer_by}
use Rattle.sheet_refusals.specs.Causes.{sheet_of}
use Rattle.sheet_calls.proofs.Outcomes.{answered}
use Rattle.sheet_calls.proofs.lay.Goals as goal

pub returns-clause-value : goal.returns-clause-value
returns-clause-value c =
    let a = c.args in
    c.answer.ensures ∙ ap (answer_by a.sheet) c.lay_on-given.ensures.value ∙ answered a.sheet (lay_call (lent_by a.size a.table.now a.pixels.now) (sheet_of a.sheet a.counts.now) a.piece a.place)
