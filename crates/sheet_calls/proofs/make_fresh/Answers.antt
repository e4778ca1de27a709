-- `make_fresh`: what the check answers decides the outcome, and clearing the counts is the fresh sheet. Assumes nothing.
use Rattle.list_laws.proofs.Exits.{handed_on}
use Rattle.list_laws.proofs.Kit.{◌∙◌, ap, sym, ℕ, length, replicate}
use Rattle.model.specs.Lent.{lent_by, job_of}
use Rattle.model.specs.Answers.{done_answer}
use Rattle.model.specs.Calls.{counts_after}
use Rattle.model.specs.Cover.{fresh}
use Rattle.sheet_refusals.proofs.Buffers.{buffer_passed}
use Rattle.sheet_calls.proofs.Outcomes.{fresh_refused, fresh_given}
use Rattle.sheet_calls.proofs.make_fresh.Goals as goal

pub returns-in_err-buffer_refusal : goal.returns-in_err-buffer_refusal
returns-in_err-buffer_refusal c =
    let a = c.args in
    let o = fresh_refused (lent_by a.size a.table.now a.pixels.now) (length a.counts.now) _ c.in_err-buffer_refusal.ensures in
    let e = handed_on _ _ c.from_residual.ensures.1 in
    record { value = e ∙ sym (ap done_answer o); counts_after = sym (ap (counts_after a.counts.now) o) }

pub returns : goal.returns
unfolding fresh job_of
returns c =
    let a = c.args in
    let l = lent_by a.size a.table.now a.pixels.now in
    let o = fresh_given l (length a.counts.now) c.in_ok-buffer_refusal.ensures in
    let full = (buffer_passed l (length a.counts.now) c.in_ok-buffer_refusal.ensures).full in
    record {
      value = sym (ap done_answer o);
      counts_after = c.clear.ensures ∙ ap (λ (n : ℕ). replicate n 0) full ∙ sym (ap (counts_after a.counts.now) o);
    }
