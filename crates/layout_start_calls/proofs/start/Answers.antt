-- `layout_start_calls::start` meets its contract: on a refusal nothing is written, else the free pieces are stacked, and the entry of each locked
-- one is that of its placement already (`start_laid`). Assumes nothing.
use Rattle.list_laws.proofs.Exits.{handed_on}
use Rattle.list_laws.proofs.Kit.{◌∙◌, ◌≡◌, ap, sym, List, ℕ, eqb-true, length, not-false}
use Rattle.model.specs.Start.{start}
use Rattle.model.specs.Refusal.{refused, given}
use Rattle.model.specs.Lent.{Lent, lent_by, job_of}
use Rattle.model.specs.Buffer.{entries_of, layout_of}
use Rattle.model.specs.Answers.{done_answer}
use Rattle.model.specs.Calls.{start_causes, start_call, layout_after}
use Rattle.text_laws.proofs.Causes.{passed_none, refused_alone}
use Rattle.text_laws.proofs.Entries.{entries_read_back}
use Rattle.text_laws.proofs.Outcomes.{unless_given}
use Rattle.descent_laws.proofs.Run.{impossible}
use Rattle.call_laws.proofs.Layouts.{job_well}
use Rattle.call_laws.proofs.Texts.{start_said}
use Rattle.layout_places.proofs.Fitting.{fitting}
use Rattle.layout_start_calls.proofs.Stacks.{start_laid}
use Rattle.layout_start_calls.proofs.start.Goals as goal

pub returns-in_err-start_causes : goal.returns-in_err-start_causes
unfolding start_call
returns-in_err-start_causes c =
    let l : Lent = lent_by c.args.size c.args.table.now c.args.pixels.now in
    let es = c.args.layout.now in
    let o = refused_alone (start_causes l es) (start (job_of l) (layout_of es)) _ c.in_err-start_causes.ensures.first in
    let e = handed_on _ _ c.from_residual.ensures.1 in
    record { answer = e ∙ sym (ap done_answer o); memory = sym (ap (layout_after es) o); layout = λ k. impossible (cc) }

pub stack_free-requires : goal.stack_free-requires
stack_free-requires c =
    let l : Lent = lent_by c.args.size c.args.table.now c.args.pixels.now in
    let none = passed_none _ c.in_ok-start_causes.ensures.first in
    (fitting c.args.size c.args.table.now c.args.pixels.now (job_well l none.0), eqb-true _ _ (not-false _ none.1.0))

pub returns : goal.returns
unfolding start_call job_of
returns c =
    let l : Lent = lent_by c.args.size c.args.table.now c.args.pixels.now in
    let es : List (List ℕ) = c.args.layout.now in
    let none = passed_none _ c.in_ok-start_causes.ensures.first in
    let o : start_call l es ≡ given (start (job_of l) (layout_of es)) = unless_given (start_causes l es) (start (job_of l) (layout_of es)) none in
    let laid : c.stack_free.new.layout ≡ entries_of (start (job_of l) (layout_of es)) =
    start_laid (job_of l) es _ (eqb-true _ _ (not-false _ none.1.0)) (c.start_causes.ensures.written c.in_ok-start_causes.was)
    (c.stack_free.ensures c.args.pixels.now) in
    record {
      answer = sym (ap done_answer o);
      memory = laid ∙ sym (ap (layout_after es) o);
      layout = λ e. rw (laid, entries_read_back (start (job_of l) (layout_of es))) (start_said l es none);
    }
