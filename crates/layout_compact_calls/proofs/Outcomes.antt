-- The outcome of the call that pushes a layout, by what the check of the layout answers. Assumes nothing.
use Rattle.std.specs.Prelude.{Result, Ok, Err}
use Rattle.list_laws.proofs.Kit.{◌∙◌, ◌≡◌, ap, sym, List, ℕ}
use Rattle.model.specs.Lent.{Lent, job_of}
use Rattle.model.specs.Buffer.{entries_of, layout_of}
use Rattle.model.specs.Refusal.{refused, given}
use Rattle.model.specs.Answers.{done_answer}
use Rattle.model.specs.Compact.{compact}
use Rattle.model.specs.Calls.{layout_causes, check_causes, check_call, compact_call, compact_after, slid_answer}
use Rattle.model.specs.declared.Refusal.{Refusal}
use Rattle.text_laws.proofs.Outcomes.{unless_given}
use Rattle.text_laws.proofs.Causes.{refused_alone}
use Rattle.descent_laws.specs.LentLayout.{Laid}
use Rattle.call_laws.specs.Compacting.{CompactedClaims}
use Rattle.call_laws.proofs.Compacting.{compact_answered}
use Rattle.call_laws.proofs.Checks.{check_first, check_none}
use Rattle.causes.proofs.Passed.{laid_by}

module _ (l : Lent) (es : List (List ℕ)) where
  -- a refused check refuses
  pub compact_refused : (r : Refusal) → Err r ≡ done_answer (check_call l es) → compact_call l es ≡ refused r
  unfolding compact_call
  compact_refused r e = refused_alone (check_causes l es) _ r (e ∙ check_first l es)

  -- a check that passes gives the layout that the pieces are pushed to
  pub compact_passed : Ok tt ≡ done_answer (check_call l es) → compact_call l es ≡ given (compact (job_of l) (layout_of es))
  unfolding compact_call
  compact_passed e = unless_given (check_causes l es) _ (check_none l es e)

  -- and the job and the layout are checked
  pub passed_laid : Ok tt ≡ done_answer (check_call l es) → Laid l es
  unfolding layout_causes
  passed_laid e =
      let n = check_none l es e in laid_by l es n.0 n.1.0 n.1.1.0 n.1.1.1.0

  -- a refused check is the call's answer
  pub refused_answer : (r : Refusal) → Err r ≡ done_answer (check_call l es) → Err r ≡ slid_answer (compact_call l es)
  refused_answer r e = sym (ap slid_answer (compact_refused r e))

  -- and leaves the layout buffer as it was
  pub refused_buffer : (r : Refusal) → Err r ≡ done_answer (check_call l es) → es ≡ compact_after es (compact_call l es)
  refused_buffer r e = sym (ap (compact_after es) (compact_refused r e))

  -- behind a check that passes the pixels slid are the answer
  pub passed_answer : (n : ℕ) → Ok tt ≡ done_answer (check_call l es) → n ≡ (compact (job_of l) (layout_of es)).slid → Ok n ≡ slid_answer (compact_call l es)
  passed_answer n e slid = ap Ok slid ∙ sym (ap slid_answer (compact_passed e))

  -- and the buffer holds the layout that is reached
  pub passed_buffer : (after : List (List ℕ)) → Ok tt ≡ done_answer (check_call l es) → after ≡ entries_of (compact (job_of l) (layout_of es)).layout
      → after ≡ compact_after es (compact_call l es)
  passed_buffer after e pushed = pushed ∙ sym (ap (compact_after es) (compact_passed e))

  -- of which the claims hold
  pub passed_claims : (k n : ℕ) (after : List (List ℕ)) → Ok tt ≡ done_answer (check_call l es) → k ≡ (compact (job_of l) (layout_of es)).slid
      → after ≡ entries_of (compact (job_of l) (layout_of es)).layout → ◌≡◌ {A = Result ℕ Refusal} (Ok k) (Ok n) → CompactedClaims l es after n
  passed_claims k n after e slid pushed told = rw (passed_buffer after e pushed) (compact_answered l es (passed_answer k e slid) n told)
