-- `causes::placing_causes` meets its contract: a piece that is not known is a reason for 9 beside the turns'. Assumes nothing.
use Rattle.list_laws.proofs.Kit.{◌∙◌, ap, Bool, false, not, rules}
use Rattle.model.specs.Answers.{done_answer, first_cause}
use Rattle.model.specs.Lent.{Lent, lent_by}
use Rattle.causes.specs.Asked.{weighted_causes}
use Rattle.causes.proofs.Asked.{placing_asked}
use Rattle.causes.proofs.placing_causes.Statement.{statement}
use Rattle.causes.proofs.placing_causes.Tie as tie

returns : tie.Need-returns
returns c =
    let start : tie.Start = search in
    let asked : tie.After-known-wrong = search in
    let a = start.args in
    let l : Lent = lent_by a.size a.table.now a.pixels.now in
    c.weighted_causes.ensures
    ∙ ap (λ (b : Bool). first_cause (weighted_causes l a.layout.now a.weights.now false (not b))) (asked.known-wrong.ensures a.pixels.now)
    ∙ ap done_answer (placing_asked l a.layout.now tt a.weights.now a.piece a.turn)

pub placing_causes_spec : {M : Type 1} → statement M
placing_causes_spec = tie.close (tie.spec
    (search rules) (search rules) returns)
