-- `layout_preview_calls::preview` meets its contract: the causes refuse, or none is there and the figures of the moved layout are shown; either way
-- the answer tells the call's outcome, of which the claims hold. Assumes nothing.
use Rattle.list_laws.proofs.Exits.{handed_on}
use Rattle.list_laws.proofs.Kit.{◌∙◌, sym}
use Rattle.model.specs.Lent.{lent_by}
use Rattle.model.specs.Calls.{preview_call}
use Rattle.text_laws.proofs.Outcomes.{unless_given}
use Rattle.text_laws.proofs.Causes.{passed_none, refused_alone}
use Rattle.call_laws.proofs.Previews.{placing_none, placed_inside}
use Rattle.causes.proofs.Passed.{placing_passed}
use Rattle.layout_preview_calls.proofs.Answered.{preview_answered}
use Rattle.layout_preview_calls.proofs.preview.Goals as goal

pub returns-in_err-preview_causes-clause-answer : goal.returns-in_err-preview_causes-clause-answer
unfolding preview_call
returns-in_err-preview_causes-clause-answer c = rw (refused_alone _ _ _ c.in_err-preview_causes.ensures) (handed_on _ _ c.from_residual.ensures.1)

pub returns-in_err-preview_causes-clause-figures : goal.returns-in_err-preview_causes-clause-figures
returns-in_err-preview_causes-clause-figures c =
    let l = lent_by c.args.size c.args.table.now c.args.pixels.now in
    (preview_answered l c.args.layout.now c.args.weights.now c.args.piece c.args.place (returns-in_err-preview_causes-clause-answer c)).1

pub figures_moved-requires : goal.figures_moved-requires
figures_moved-requires c =
    let l = lent_by c.args.size c.args.table.now c.args.pixels.now in
    let none = passed_none _ c.in_ok-preview_causes.ensures in
    let k =
    placing_passed l c.args.layout.now c.args.weights.now c.args.piece c.args.place.turn
    (placing_none l c.args.layout.now c.args.weights.now c.args.piece c.args.place none) in
    let within = placed_inside l c.args.layout.now c.args.weights.now c.args.piece c.args.place none in
    record { fact_1 = k.laid; fact_2 = k.weights; fact_3 = record { piece = k.piece; turn = k.turn; within = within } }

pub returns-clause-answer : goal.returns-clause-answer
unfolding preview_call
returns-clause-answer c = rw (unless_given _ _ (passed_none _ c.in_ok-preview_causes.ensures), c.figures_moved.ensures)

pub returns-clause-figures : goal.returns-clause-figures
returns-clause-figures c =
    let l = lent_by c.args.size c.args.table.now c.args.pixels.now in
    (preview_answered l c.args.layout.now c.args.weights.now c.args.piece c.args.place (returns-clause-answer c)).1
