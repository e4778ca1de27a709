-- `causes::layout_causes` meets its contract: nothing of the call's own is wrong. Assumes nothing.
use Rattle.list_laws.proofs.Kit.{◌∙◌, ap, rules}
use Rattle.model.specs.Answers.{done_answer}
use Rattle.model.specs.Lent.{lent_by}
use Rattle.causes.proofs.Asked.{layout_asked}
use Rattle.causes.proofs.layout_causes.Statement.{statement}
use Rattle.causes.proofs.layout_causes.Tie as tie

returns : tie.Need-returns
returns c =
    let start : tie.Start = search in
    let a = start.args in
    c.call_causes.ensures ∙ ap done_answer (layout_asked (lent_by a.size a.table.now a.pixels.now) a.layout.now tt)

pub layout_causes_spec : {M : Type 1} → statement M
layout_causes_spec = tie.close (tie.spec
    (search rules) returns)
