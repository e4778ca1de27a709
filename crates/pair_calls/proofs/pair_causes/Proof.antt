-- `pair_calls::pair_causes` meets its contract: the pair's own cause is a reason for 9 beside the turns'. Assumes nothing.
use Rattle.list_laws.proofs.Kit.{◌∙◌, ap, Bool, ◌||◌, not, List, [], ◌∷◌, eqb, ltb, rules}
use Rattle.model.specs.Answers.{done_answer}
use Rattle.model.specs.Refusal.{Cause, cause, unless, no_such_piece}
use Rattle.model.specs.Lent.{Lent, lent_by, job_of}
use Rattle.model.specs.Calls.{some_turn_wrong, job_cause, layout_length, outside_cause, pair_causes}
use Rattle.causes.proofs.Asked.{placed_asked}
use Rattle.pair_calls.proofs.Readies.{or_four}
use Rattle.pair_calls.proofs.pair_causes.Statement.{statement}
use Rattle.pair_calls.proofs.pair_causes.Tie as tie

returns : tie.Need-returns
unfolding pair_causes
returns c =
    let start : tie.Start = search in
    let asked : tie.After-wrong_pair = search in
    let a = start.args in
    let l : Lent = lent_by a.size a.table.now a.pixels.now in
    let es = a.layout.now in
    let list : Bool → List Cause = λ b. job_cause l ∷ layout_length l es ∷ cause no_such_piece b ∷ outside_cause l es ∷ [] in
    c.call_causes.ensures
    ∙ ap done_answer
    (placed_asked l es tt asked.wrong_pair.result
    ∙ ap (λ b. unless (list (some_turn_wrong (job_of l) es || b)) tt) asked.wrong_pair.ensures
    ∙ ap (λ b. unless (list b) tt)
    (or_four (some_turn_wrong (job_of l) es) (not (ltb a.i l.size.count)) (not (ltb a.k l.size.count)) (eqb a.i a.k)))

pub pair_causes_spec : {M : Type 1} → statement M
pair_causes_spec = tie.close (tie.spec
    (search rules) (search rules) returns)
