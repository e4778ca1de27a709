-- `layout_read_calls::read_layout`, part by part. Assumes nothing.
use Rattle.list_laws.proofs.Exits.{handed_on}
use Rattle.list_laws.proofs.Kit.{◌∙◌, ◌≡◌, ap, sym, false, true, length}
use Rattle.model.specs.Refusal.{refused, plain_refusal}
use Rattle.model.specs.Lent.{Lent, lent_by, job_of, lent_well}
use Rattle.model.specs.LayoutText.{layout_line}
use Rattle.model.specs.Calls.{read_layout_call, layout_after}
use Rattle.layout_places.proofs.Fitting.{fitting}
use Rattle.model.specs.Answers.{done_answer}
use Rattle.layout_read_calls.specs.Readings.{layout_from}
use Rattle.layout_read_calls.proofs.Whole.{position_refused, position_given, read_unsound, read_refused, read_from}
use Rattle.layout_read_calls.proofs.read_layout.Goals as goal

pub returns-then-not-check_job : goal.returns-then-not-check_job
returns-then-not-check_job c =
    let a = c.args in
    let l : Lent = lent_by a.size a.table.now a.pixels.now in
    let well : lent_well l ≡ false = sym c.check_job.ensures ∙ c.if-not-check_job.true in
    let o : read_layout_call l a.text.now (length a.layout.now) ≡ refused (plain_refusal 8) = read_unsound l a.text.now _ well in
    record { answer = c.refused.ensures ∙ sym (ap done_answer o); memory = sym (ap (layout_after a.layout.now) o) }

pub fill_layout-requires : goal.fill_layout-requires
fill_layout-requires c =
    let a = c.args in
    let well : lent_well (lent_by a.size a.table.now a.pixels.now) ≡ true = sym c.check_job.ensures ∙ c.if-not-check_job.false in
    (fitting a.size a.table.now a.pixels.now well, c.in_ok-p.ensures.1)

pub returns-in_err-p : goal.returns-in_err-p
returns-in_err-p c =
    let a = c.args in
    let l : Lent = lent_by a.size a.table.now a.pixels.now in
    let well : lent_well l ≡ true = sym c.check_job.ensures ∙ c.if-not-check_job.false in
    let o : read_layout_call l a.text.now (length a.layout.now) ≡ refused c.in_err-p.field-0.0 =
    read_refused l a.text.now _ _ well (position_refused (layout_line (job_of l) a.text.now) _ (c.in_err-p.ensures.0 a.table.now a.pixels.now)) in
    let e = handed_on _ _ c.from_residual.ensures.1 in
    record { answer = e ∙ sym (ap done_answer o); memory = sym (ap (layout_after a.layout.now) o) }

pub returns : goal.returns
returns c =
    let a = c.args in
    let l : Lent = lent_by a.size a.table.now a.pixels.now in
    let well : lent_well l ≡ true = sym c.check_job.ensures ∙ c.if-not-check_job.false in
    let o : read_layout_call l a.text.now (length a.layout.now) ≡ layout_from (job_of l) a.text.now c.in_ok-p.p (length a.layout.now) =
    read_from l a.text.now _ c.in_ok-p.p well (position_given (layout_line (job_of l) a.text.now) _ (c.in_ok-p.ensures.0 a.table.now a.pixels.now)) in
    let fill = c.fill_layout.ensures a.pixels.now in
    record { answer = fill.0 ∙ sym (ap done_answer o); memory = fill.1 ∙ sym (ap (layout_after a.layout.now) o) }
