-- `sigbrol::runs::sigbrol_descent` meets its contract by what the answer tells; demand 3 is what the inner call says of the
-- descent, by the numbers that tell it. Assumes nothing.
use Rattle.list_laws.proofs.Kit.{◌∙◌, ◌≡◌, ap, sym, arith, rules}
use Rattle.model.specs.Descent.{Descent}
use Rattle.model.specs.Refusal.{Outcome}
use Rattle.model.specs.Calls.{descent_call}
use Rattle.model.specs.Buffer.{end_number}
use Rattle.run_descent_calls.specs.Answers.{descent_answer, ended_of}
use Rattle.c_interface.specs.Numbers.{lent_as}
use Rattle.c_interface.specs.declared.Reply.{Reply}
use Rattle.sigbrol.proofs.Told.{reply_by, leaves_by, refusal_told, ended_told_lem}
use Rattle.sigbrol.proofs.Claimed.{descent_claimed, descent_numbered}
use Rattle.sigbrol.proofs.runs.sigbrol_descent.Statement.{statement}
use Rattle.sigbrol.proofs.runs.sigbrol_descent.Tie as tie

-- the outcome of the call
outcome : tie.Start → Outcome Descent
outcome s = let a = s.args in
    descent_call (lent_as a.rows a.columns a.count a.gap a.table.now a.pixels.now) a.layout.now a.weights.now a.budget

-- its answer tells that outcome
answered : (c : tie.After-descent) →
    let at-start : tie.Start = search in
    c.descent.result ≡ descent_answer (outcome (at-start))
unfolding outcome
answered c = let sized : tie.After-size_of = search in rw sized.size_of.ensures at c.descent.ensures.0

size_of-requires : tie.Need-size_of-requires
size_of-requires c κs = tt

descent-requires : tie.Need-descent-requires
descent-requires c κs = tt

enum_known-ended : tie.Need-enum_known-ended
enum_known-ended c = search rules

end_number-requires : tie.Need-end_number-requires
end_number-requires c κs = tt

put_run-requires : tie.Need-put_run-requires
put_run-requires c κs = tt

done-requires : tie.Need-done-requires
done-requires c κs = tt

enum_known-refusal : tie.Need-enum_known-refusal
enum_known-refusal c = search rules

refused-requires : tie.Need-refused-requires
refused-requires c κs = tt

shape_of-layout-in-Ok : tie.Need-shape_of-layout-in-Ok
shape_of-layout-in-Ok c = let called : tie.After-descent = search in called.descent.auto.layout

returns-in-Ok : tie.Need-returns-in-Ok
unfolding outcome
returns-in-Ok c =
    let put : tie.After-put_run = search in
    let number : tie.After-end_number = search in
    let how : tie.In-Ok = search in
    let called : tie.After-descent = search in
    let sized : tie.After-size_of = search in
    let s : tie.Start = search in
    let o = outcome s in
    let t = ended_told_lem o (sym how.in-Ok.is ∙ answered called) in
    let numbers = put.put_run.ensures in (
      c.done.ensures ∙ reply_by ended_of o t,
      (
        rw sized.size_of.ensures at called.descent.ensures.1.0,
        (
          rw sized.size_of.ensures at called.descent.ensures.1.1.0,
          (
            number.end_number.ensures ∙ leaves_by ended_of (λ e. end_number e.end) _ o t,
            (
              numbers.0 ∙ leaves_by ended_of (λ e. e.sum) _ o t,
              (
                numbers.1.0 ∙ leaves_by ended_of (λ e. e.made) _ o t,
                (
                  numbers.1.1 ∙ leaves_by ended_of (λ e. e.moves) _ o t,
                  λ zero.
                      rw (numbers.0, numbers.1.0, numbers.1.1)
                      (descent_claimed _ _ _ _ _ _ _ number.end_number.ensures
                      (rw sized.size_of.ensures at (called.descent.ensures.1.1.1 _ how.in-Ok.is))),
                ),
              ),
            ),
          ),
        ),
      ),
    )

shape_of-layout-in-Err : tie.Need-shape_of-layout-in-Err
shape_of-layout-in-Err c =
    let at-descent : tie.After-descent = search in
    at-descent.descent.auto.layout

returns-in-Err : tie.Need-returns-in-Err
unfolding outcome
returns-in-Err c =
    let at-descent : tie.After-descent = search in
    let at-size-of : tie.After-size_of = search in
    let at-start : tie.Start = search in
    let o = outcome (at-start) in
    let t = ended_told_lem o (sym c.in-Err.is ∙ answered (at-descent)) in
    let a = at-start.args in
    let positive =
    descent_numbered (lent_as a.rows a.columns a.count a.gap a.table.now a.pixels.now) a.layout.now a.weights.now a.budget _
    (refusal_told ended_of o _ t) in
    let number = ap (λ (x : Reply). x.number) c.refused.ensures in (
      c.refused.ensures ∙ reply_by ended_of o t,
      (
        rw at-size-of.size_of.ensures at at-descent.descent.ensures.1.0,
        (
          rw at-size-of.size_of.ensures at at-descent.descent.ensures.1.1.0,
          (
            leaves_by ended_of (λ e. end_number e.end) _ o t,
            (
              leaves_by ended_of (λ e. e.sum) _ o t,
              (leaves_by ended_of (λ e. e.made) _ o t, (leaves_by ended_of (λ e. e.moves) _ o t, λ zero. absurd (omega (arith, positive, number, zero)))),
            ),
          ),
        ),
      ),
    )

pub sigbrol_descent_spec : {M : Type 1} → statement M
sigbrol_descent_spec =
    tie.close (tie.spec
    size_of-requires descent-requires enum_known-ended end_number-requires (search rules) (search rules) put_run-requires done-requires
    enum_known-refusal refused-requires shape_of-layout-in-Ok (search rules) returns-in-Ok shape_of-layout-in-Err (search rules)
    returns-in-Err)
