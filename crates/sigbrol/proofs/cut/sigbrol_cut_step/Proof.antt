-- `sigbrol::cut::sigbrol_cut_step` meets its contract by what the answer tells. Assumes nothing.
use Rattle.list_laws.proofs.Kit.{◌∙◌, ◌≡◌, ap, sym, arith, rules}
use Rattle.model.specs.Refusal.{Outcome}
use Rattle.model.specs.Lent.{Lent}
use Rattle.model.specs.Calls.{cut_step_call}
use Rattle.model.specs.declared.CutStep.{CutStep}
use Rattle.cut_step_calls.specs.Answers.{step_answer}
use Rattle.c_interface.specs.Numbers.{lent_as}
use Rattle.c_interface.specs.declared.Reply.{Reply}
use Rattle.c_results.specs.Steps.{step_word, step_x, step_y}
use Rattle.sigbrol.proofs.Told.{reply_by, leaves_by, refusal_told, step_told_lem, told_back}
use Rattle.sigbrol.proofs.Claimed.{cut_step_numbered}
use Rattle.sigbrol.proofs.cut.sigbrol_cut_step.Statement.{statement}
use Rattle.sigbrol.proofs.cut.sigbrol_cut_step.Tie as tie

-- the lent job
abbrev lent : tie.Start → Lent
lent s = let a = s.args in lent_as a.rows a.columns a.count a.gap a.table.now a.pixels.now

-- the outcome of the call
outcome : tie.Start → Outcome CutStep
outcome s = cut_step_call (lent s) s.args.layout.now s.args.pitch s.args.step

-- its answer tells that outcome
answered : (c : tie.After-cut_step) → let at-start : tie.Start = search in c.cut_step.result ≡ step_answer (outcome at-start)
unfolding outcome
answered c = let sized : tie.After-size_of = search in rw sized.size_of.ensures at c.cut_step.ensures.0

returns-in-Ok : tie.Need-returns-in-Ok
unfolding outcome
returns-in-Ok c =
    let handed : tie.After-put_step = search in
    let how : tie.In-Ok = search in
    let called : tie.After-cut_step = search in
    let sized : tie.After-size_of = search in
    let at-start : tie.Start = search in
    let o = outcome at-start in
    let t = step_told_lem o (sym how.in-Ok.is ∙ answered called) in
    let put = handed.put_step.ensures in (
      c.done.ensures ∙ reply_by (λ a. a) o t,
      (
        put.0 ∙ leaves_by (λ a. a) step_word _ o t,
        (
          put.1.0 ∙ leaves_by (λ a. a) (step_x _) _ o t,
          (
            put.1.1 ∙ leaves_by (λ a. a) (step_y _) _ o t,
            λ zero.
                let claims = rw sized.size_of.ensures at (called.cut_step.ensures.1 _ how.in-Ok.is) in
                (claims.0, rw (put.0, put.1.0, put.1.1, told_back _ _ _) claims.1),
          ),
        ),
      ),
    )

returns-in-Err : tie.Need-returns-in-Err
unfolding outcome
returns-in-Err c =
    let called : tie.After-cut_step = search in
    let at-start : tie.Start = search in
    let o = outcome at-start in
    let t = step_told_lem o (sym c.in-Err.is ∙ answered called) in
    let positive = cut_step_numbered (lent at-start) at-start.args.layout.now _ _ _ (refusal_told (λ a. a) o _ t) in
    let number = ap (λ (x : Reply). x.number) c.refused.ensures in (
      c.refused.ensures ∙ reply_by (λ a. a) o t,
      (
        leaves_by (λ a. a) step_word _ o t,
        (
          leaves_by (λ a. a) (step_x _) _ o t,
          (leaves_by (λ a. a) (step_y _) _ o t, λ zero. absurd (omega (arith, positive, number, zero))),
        ),
      ),
    )

pub sigbrol_cut_step_spec : {M : Type 1} → statement M
sigbrol_cut_step_spec =
    tie.close
    (tie.spec
    (search rules) (search rules) (search rules) (search rules) (search rules) (search rules) (search rules) returns-in-Ok returns-in-Err)
