-- `layout_length_calls::used_length` meets its contract: the causes refuse, or none is there and the length is given; either way the answer
-- tells the call's outcome, of which the claims hold. Assumes nothing.
use Rattle.list_laws.proofs.Exits.{handed_on}
use Rattle.list_laws.proofs.Kit.{◌∙◌, ◌≡◌, sym, rules}
use Rattle.model.specs.Answers.{number_answer}
use Rattle.model.specs.Lent.{Lent, lent_by}
use Rattle.model.specs.Calls.{layout_causes, used_length_call}
use Rattle.job_laws.proofs.Checked.{facts}
use Rattle.text_laws.proofs.Outcomes.{unless_given}
use Rattle.text_laws.proofs.Causes.{passed_none, refused_alone}
use Rattle.call_laws.proofs.Lengths.{used_answered}
use Rattle.causes.proofs.Passed.{layout_laid, laid_entries}
use Rattle.layout_length_calls.proofs.used_length.Goals as goal

pub returns-in_err-layout_causes-clause-answer : goal.returns-in_err-layout_causes-clause-answer
unfolding used_length_call
returns-in_err-layout_causes-clause-answer c =
    rw (refused_alone _ _ _ c.in_err-layout_causes.ensures) (handed_on _ _ c.from_residual.ensures.1)

pub length_between_ends-requires : goal.length_between_ends-requires
length_between_ends-requires c =
    let l = lent_by c.args.size c.args.table.now c.args.pixels.now in
    let laid = layout_laid l c.args.layout.now (passed_none _ c.in_ok-layout_causes.ensures) in
    ((facts l laid.well).some_pieces, laid_entries l c.args.layout.now laid, laid.whole)

pub returns-clause-answer : goal.returns-clause-answer
unfolding used_length_call
returns-clause-answer c = rw (unless_given _ _ (passed_none _ c.in_ok-layout_causes.ensures), c.length_between_ends.ensures c.args.pixels.now)

pub returns-clause-length : goal.returns-clause-length
returns-clause-length c = (used_answered (lent_by c.args.size c.args.table.now c.args.pixels.now) c.args.layout.now (returns-clause-answer c)).1
