-- `layout_preview_calls::preview_causes` meets its contract: the causes of placing the piece come first, and where none of them is there the new
-- placement decides. Assumes nothing.
use Rattle.list_laws.proofs.Exits.{handed_on}
use Rattle.list_laws.proofs.Kit.{◌∙◌, ap, sym, not, [], ◌∷◌, arith}
use Rattle.model.specs.Answers.{done_answer}
use Rattle.model.specs.Layout.{inside}
use Rattle.model.specs.Lent.{lent_by, job_of}
use Rattle.model.specs.Refusal.{cause, outside_sheet}
use Rattle.model.specs.Calls.{placing_causes}
use Rattle.causes.proofs.Passed.{placing_passed, laid_entries}
use Rattle.text_laws.proofs.Causes.{passed_none, none_then, refused_then, there, next, no_more}
use Rattle.layout_preview_calls.proofs.preview_causes.Goals as goal

pub returns-in_err-placing_causes : goal.returns-in_err-placing_causes
returns-in_err-placing_causes c =
    let l = lent_by c.args.size c.args.table.now c.args.pixels.now in
    let placing = placing_causes l c.args.layout.now c.args.weights.now c.args.piece c.args.place.turn in
    let outside = cause outside_sheet (not (inside (job_of l) c.args.piece c.args.place)) in
    handed_on _ _ c.from_residual.ensures.1 ∙ sym (ap done_answer (refused_then placing (outside ∷ []) tt _ c.in_err-placing_causes.ensures))

pub inside-requires : goal.inside-requires
inside-requires c =
    let l = lent_by c.args.size c.args.table.now c.args.pixels.now in
    let known = placing_passed l c.args.layout.now c.args.weights.now c.args.piece c.args.place.turn (passed_none _ c.in_ok-placing_causes.ensures) in
    let entries = laid_entries l c.args.layout.now known.laid in
    let piece = known.piece in omega arith

pub returns-then-not-inside : goal.returns-then-not-inside
returns-then-not-inside c =
    let l = lent_by c.args.size c.args.table.now c.args.pixels.now in
    let placing = placing_causes l c.args.layout.now c.args.weights.now c.args.piece c.args.place.turn in
    let outside = not (inside (job_of l) c.args.piece c.args.place) in
    c.refused.ensures
    ∙ there outside_sheet outside [] (ap not (sym (c.inside.ensures c.args.pixels.now) ∙ c.if-not-inside.true))
    ∙ sym (ap done_answer (none_then placing (cause outside_sheet outside ∷ []) tt (passed_none _ c.in_ok-placing_causes.ensures)))

pub returns : goal.returns
returns c =
    let l = lent_by c.args.size c.args.table.now c.args.pixels.now in
    let placing = placing_causes l c.args.layout.now c.args.weights.now c.args.piece c.args.place.turn in
    let outside = not (inside (job_of l) c.args.piece c.args.place) in
    next outside_sheet outside [] (ap not (sym (c.inside.ensures c.args.pixels.now) ∙ c.if-not-inside.false)) no_more
    ∙ sym (ap done_answer (none_then placing (cause outside_sheet outside ∷ []) tt (passed_none _ c.in_ok-placing_causes.ensures)))
