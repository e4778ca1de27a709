-- `causes::weighted_causes` meets its contract: the length of the weights is asked behind the job, whose pieces are then few. Assumes nothing.
use Rattle.list_laws.proofs.Kit.{◌∙◌, ap, Bool, List, ◌∷◌, rules}
use Rattle.model.specs.Answers.{done_answer}
use Rattle.model.specs.Refusal.{Cause, cause, unless, out_of_range}
use Rattle.model.specs.Calls.{job_cause, layout_length, weights_length}
use Rattle.model.specs.Lent.{lent_by}
use Rattle.causes.specs.Asked.{place_causes}
use Rattle.causes.proofs.Asked.{weights_asked}
use Rattle.causes.proofs.weighted_causes.Statement.{statement}
use Rattle.causes.proofs.weighted_causes.Tie as tie

returns : tie.Need-returns
returns c =
    let start : tie.Start = search in
    let missing : tie.After-weights_missing = search in
    let wrong : tie.After-some_number_wrong = search in
    let a = start.args in
    let l = lent_by a.size a.table.now a.pixels.now in
    let own : Bool → List Cause = λ b. cause out_of_range b ∷ place_causes l a.layout.now a.piece in
    c.call_causes.ensures
    ∙ ap done_answer
    (weights_asked l a.layout.now tt a.weights.now missing.weights_missing.result (own wrong.some_number_wrong.result)
    missing.weights_missing.ensures
    ∙ ap (λ b. unless (job_cause l ∷ layout_length l a.layout.now ∷ weights_length l a.weights.now ∷ own b) tt) wrong.some_number_wrong.ensures)

pub weighted_causes_spec : {M : Type 1} → statement M
weighted_causes_spec = tie.close (tie.spec
    (search rules) (search rules) (search rules) returns)
