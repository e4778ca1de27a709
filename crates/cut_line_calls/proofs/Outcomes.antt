-- The outcome of the call for all lines, by what the check of the layout answers. Assumes nothing.
use Rattle.std.specs.Prelude.{Result, Ok, Err}
use Rattle.list_laws.proofs.Kit.{◌∙◌, ◌≡◌, ap, refl, sym, List, [], ◌++◌, ◌∷◌, ℕ, arith, length}
use Rattle.model.specs.Lent.{Lent, job_of}
use Rattle.model.specs.Buffer.{layout_of}
use Rattle.model.specs.Refusal.{Outcome, refused, given, unless}
use Rattle.model.specs.Answers.{done_answer, count_answer}
use Rattle.model.specs.Cut.{CutLine, cut_lines}
use Rattle.model.specs.Calls.{layout_causes, check_causes, check_call, at_least, cut_lines_call, lines_after}
use Rattle.model.specs.declared.Refusal.{Refusal}
use Rattle.text_laws.specs.Outcomes.{NoCause}
use Rattle.text_laws.proofs.Outcomes.{unless_given}
use Rattle.text_laws.proofs.Causes.{none_then, refused_then}
use Rattle.call_laws.proofs.Checks.{check_first, check_none, check_given}
use Rattle.call_laws.specs.Cuts.{CutListClaims}
use Rattle.call_laws.proofs.Cuts.{cut_given}
use Rattle.causes.proofs.Passed.{laid_by}
use Rattle.cut_list.specs.Owned.{in_room, LaidApart}

module _ (l : Lent) (es : List (List ℕ)) where
  -- the lines call is the check, and then room
  lines_after_check : (room : ℕ) → cut_lines_call l es room
      ≡ unless (check_causes l es ++ (at_least (length (cut_lines (job_of l) (layout_of es))) room ∷ [])) (cut_lines (job_of l) (layout_of es))
  unfolding cut_lines_call layout_causes
  lines_after_check room = refl

  -- a refused check refuses
  pub lines_refused : (room : ℕ) (r : Refusal) → Err r ≡ done_answer (check_call l es) → cut_lines_call l es room ≡ refused r
  lines_refused room r e = lines_after_check room ∙ refused_then (check_causes l es) _ _ r (e ∙ check_first l es)

  -- a check that passes leaves it to the room
  pub lines_passed : (room : ℕ) → Ok tt ≡ done_answer (check_call l es)
      → cut_lines_call l es room ≡ in_room (cut_lines (job_of l) (layout_of es)) room
  lines_passed room e = lines_after_check room ∙ none_then (check_causes l es) _ _ (check_none l es e)

  -- a refused check is the call's answer
  pub refused_answer : (room : ℕ) (r : Refusal) → Err r ≡ done_answer (check_call l es)
      → Err r ≡ count_answer (cut_lines_call l es room)
  refused_answer room r e = sym (ap count_answer (lines_refused room r e))

  -- and leaves the line buffer as it was
  pub refused_lines : (room : ℕ) (r : Refusal) (lines : List (List ℕ)) → Err r ≡ done_answer (check_call l es)
      → lines ≡ lines_after lines (cut_lines_call l es room)
  refused_lines room r lines e = sym (ap (lines_after lines) (lines_refused room r e))

  -- and the job and the layout are checked
  pub passed_laid : Ok tt ≡ done_answer (check_call l es) → LaidApart l es
  unfolding check_call layout_causes
  passed_laid e =
      let n : NoCause (check_causes l es) = check_none l es e in
      record { laid = laid_by l es n.0 n.1.0 n.1.1.0 n.1.1.1.0; apart = (check_given l es tt (unless_given (check_causes l es) tt n)).apart }

  -- where it passes, what the room leaves is the call's answer
  pub passed_answer : (room : ℕ) (r : Result ℕ Refusal) → Ok tt ≡ done_answer (check_call l es)
      → r ≡ count_answer (in_room (cut_lines (job_of l) (layout_of es)) room) → r ≡ count_answer (cut_lines_call l es room)
  passed_answer room r e told = told ∙ sym (ap count_answer (lines_passed room e))

  -- and what it leaves in the line buffer
  pub passed_lines : (room : ℕ) (before after : List (List ℕ)) → Ok tt ≡ done_answer (check_call l es)
      → after ≡ lines_after before (in_room (cut_lines (job_of l) (layout_of es)) room) → after ≡ lines_after before (cut_lines_call l es room)
  passed_lines room before after e left = left ∙ sym (ap (lines_after before) (lines_passed room e))

-- an answer that tells a number tells a list that is given
pub count_given : (o : Outcome (List CutLine)) (n : ℕ) → Ok n ≡ count_answer o → (ls : List CutLine) × (o ≡ given ls)
count_given (refused r) n e = let z : ◌≡◌ {A = ℕ} 0 1 = cc in absurd (omega arith)
count_given (given ls) n e = (ls, refl)

-- an answer that tells the call's outcome says so of the layout
pub lines_answered : (l : Lent) (es : List (List ℕ)) (room : ℕ) {r : Result ℕ Refusal} → r ≡ count_answer (cut_lines_call l es room)
    → (n : ℕ) → r ≡ Ok n → CutListClaims l es
lines_answered l es room {r} e n told =
    let w = count_given (cut_lines_call l es room) n (sym told ∙ e) in (cut_given l es room w.0 w.1).1

-- so it does behind a check that passes
pub passed_claims : (l : Lent) (es : List (List ℕ)) (room n : ℕ) {r : Result ℕ Refusal} → Ok tt ≡ done_answer (check_call l es)
    → r ≡ count_answer (in_room (cut_lines (job_of l) (layout_of es)) room) → r ≡ Ok n → CutListClaims l es
passed_claims l es room n {r} e answer told = lines_answered l es room (passed_answer l es room r e answer) n told
