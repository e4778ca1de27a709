-- `search_calls::line_search` meets its contract: the causes refuse, or none is there and the search decides. Assumes nothing.
use Rattle.list_laws.proofs.Exits.{handed_on}
use Rattle.list_laws.proofs.Kit.{◌∙◌, ap, subst, sym, [], ◌∷◌, eqb}
use Rattle.model.specs.Search.{places, search_line}
use Rattle.model.specs.Refusal.{cause, empty_line}
use Rattle.model.specs.Lent.{lent_by, job_of}
use Rattle.model.specs.Buffer.{layout_of}
use Rattle.model.specs.Calls.{best_place, placing_causes, search_call}
use Rattle.text_laws.proofs.Causes.{passed_none, none_then, refused_then}
use Rattle.causes.proofs.Passed.{placing_passed}
use Rattle.search_calls.specs.Answers.{InReach, best_answer, search_answer}
use Rattle.search_calls.proofs.Answering.{best_is_lem, best_in_reach}
use Rattle.search_calls.proofs.line_search.Goals as goal

pub returns-in_err-placing_causes : goal.returns-in_err-placing_causes
unfolding search_call
returns-in_err-placing_causes c =
    let a = c.args in
    let l = lent_by a.size a.table.now a.pixels.now in
    handed_on _ _ c.from_residual.ensures.1
    ∙ sym (ap (search_answer a.line)
    (refused_then (placing_causes l a.layout.now a.weights.now a.piece a.turn)
    (cause empty_line (eqb (places (job_of l) a.piece a.turn a.line) 0) ∷ [])
    (best_place (search_line (job_of l) a.weights.now (layout_of a.layout.now) a.piece a.turn a.line)) _ c.in_err-placing_causes.ensures))

pub search_alone-requires : goal.search_alone-requires
search_alone-requires c =
    let a = c.args in
    let l = lent_by a.size a.table.now a.pixels.now in
    let known = placing_passed l a.layout.now a.weights.now a.piece a.turn (passed_none _ c.in_ok-placing_causes.ensures) in
    record { fact_1 = known.laid; fact_2 = known.weights; fact_3 = known.piece }

pub best_answer-requires : goal.best_answer-requires
best_answer-requires c =
    let a = c.args in
    let l = lent_by a.size a.table.now a.pixels.now in
    let well = (placing_passed l a.layout.now a.weights.now a.piece a.turn (passed_none _ c.in_ok-placing_causes.ensures)).laid.well in
    subst InReach (sym c.search_alone.ensures) (best_in_reach l well a.weights.now (layout_of a.layout.now) a.piece a.turn a.line)

pub returns : goal.returns
unfolding search_call
returns c =
    let a = c.args in
    let l = lent_by a.size a.table.now a.pixels.now in
    let none = passed_none _ c.in_ok-placing_causes.ensures in
    c.best_answer.ensures
    ∙ ap (best_answer a.line) c.search_alone.ensures
    ∙ best_is_lem (job_of l) a.weights.now (layout_of a.layout.now) a.piece a.turn a.line
    ∙ sym (ap (search_answer a.line)
    (none_then (placing_causes l a.layout.now a.weights.now a.piece a.turn)
    (cause empty_line (eqb (places (job_of l) a.piece a.turn a.line) 0) ∷ [])
    (best_place (search_line (job_of l) a.weights.now (layout_of a.layout.now) a.piece a.turn a.line)) none))
