-- `sigbrol::cut::sigbrol_line_step` meets its contract by what the answer tells. Assumes nothing.
use Rattle.list_laws.proofs.Kit.{◌∙◌, ◌≡◌, ap, sym, List, ℕ, arith, length, take, rules}
use Rattle.model.specs.Lent.{Lent}
use Rattle.model.specs.Refusal.{Outcome, given}
use Rattle.model.specs.Cut.{CutLine}
use Rattle.model.specs.Calls.{cut_lines_call, lines_after, cut_step_call, line_step_call}
use Rattle.model.specs.declared.CutStep.{CutStep}
use Rattle.call_laws.proofs.Cuts.{same_steps}
use Rattle.cut_step_calls.specs.Answers.{step_answer}
use Rattle.c_interface.specs.declared.Reply.{Reply}
use Rattle.c_results.specs.Steps.{step_word, step_x, step_y}
use Rattle.sigbrol.proofs.Told.{reply_by, leaves_by, refusal_told, step_told_lem, told_back}
use Rattle.sigbrol.proofs.Claimed.{line_step_numbered}
use Rattle.sigbrol.proofs.cut.sigbrol_line_step.Statement.{statement}
use Rattle.sigbrol.proofs.cut.sigbrol_line_step.Tie as tie

-- the outcome of the call
outcome : tie.Start → Outcome CutStep
outcome s = line_step_call s.args.lines.now s.args.pitch s.args.step

-- its answer tells that outcome
answered : (c : tie.After-line_step) → let at-start : tie.Start = search in c.line_step.result ≡ step_answer (outcome at-start)
unfolding outcome
answered c = c.line_step.ensures.0

-- of the lines that a layout gave it is the layout's
layout-steps : (s : tie.Start) (l : Lent) (layout before : List (List ℕ)) (ls : List CutLine) → cut_lines_call l layout (length before) ≡ given ls
    → s.args.lines.now ≡ take (length ls) (lines_after before (cut_lines_call l layout (length before)))
    → line_step_call s.args.lines.now s.args.pitch s.args.step ≡ cut_step_call l layout s.args.pitch s.args.step
layout-steps s l layout before ls e same =
    ap (λ (xs : List (List ℕ)). line_step_call xs s.args.pitch s.args.step) same ∙ same_steps l layout before ls s.args.pitch s.args.step e

returns-in-Ok : tie.Need-returns-in-Ok
unfolding outcome
returns-in-Ok c =
    let handed : tie.After-put_step = search in
    let how : tie.In-Ok = search in
    let called : tie.After-line_step = search in
    let at-start : tie.Start = search in
    let o = outcome at-start in
    let t = step_told_lem o (sym how.in-Ok.is ∙ answered called) in
    let put = handed.put_step.ensures in (
      c.done.ensures ∙ reply_by (λ a. a) o t,
      (
        put.0 ∙ leaves_by (λ a. a) step_word _ o t,
        (
          put.1.0 ∙ leaves_by (λ a. a) (step_x _) _ o t,
          (
            put.1.1 ∙ leaves_by (λ a. a) (step_y _) _ o t,
            (
              layout-steps at-start,
              λ zero.
                  rw (put.0, put.1.0, put.1.1, told_back _ _ _) (called.line_step.ensures.1.1 _ how.in-Ok.is),
            ),
          ),
        ),
      ),
    )

returns-in-Err : tie.Need-returns-in-Err
unfolding outcome
returns-in-Err c =
    let called : tie.After-line_step = search in
    let at-start : tie.Start = search in
    let o = outcome at-start in
    let t = step_told_lem o (sym c.in-Err.is ∙ answered called) in
    let positive = line_step_numbered at-start.args.lines.now _ _ _ (refusal_told (λ a. a) o _ t) in
    let number = ap (λ (x : Reply). x.number) c.refused.ensures in (
      c.refused.ensures ∙ reply_by (λ a. a) o t,
      (
        leaves_by (λ a. a) step_word _ o t,
        (
          leaves_by (λ a. a) (step_x _) _ o t,
          (
            leaves_by (λ a. a) (step_y _) _ o t,
            (layout-steps at-start, λ zero. absurd (omega (arith, positive, number, zero))),
          ),
        ),
      ),
    )

pub sigbrol_line_step_spec : {M : Type 1} → statement M
sigbrol_line_step_spec =
    tie.close
    (tie.spec
    (search rules) (search rules) (search rules) (search rules) (search rules) (search rules) returns-in-Ok returns-in-Err)
