-- `sigbrol::runs::sigbrol_guided_run` meets its contract by what the answer tells; demand 3 is what the inner call says of the
-- run, by the numbers that tell it. Assumes nothing.
use Rattle.list_laws.proofs.Kit.{◌∙◌, ◌≡◌, ap, sym, arith, rules}
use Rattle.model.specs.Guided.{Guided}
use Rattle.model.specs.Refusal.{Outcome}
use Rattle.model.specs.Calls.{guided_call}
use Rattle.run_guided_calls.specs.Answers.{guided_answer}
use Rattle.c_interface.specs.Numbers.{lent_as}
use Rattle.c_interface.specs.declared.Reply.{Reply}
use Rattle.sigbrol.proofs.Told.{reply_by, leaves_by, refusal_told, ran_told_lem, told_run}
use Rattle.sigbrol.proofs.Claimed.{guided_numbered}
use Rattle.sigbrol.proofs.runs.sigbrol_guided_run.Statement.{statement}
use Rattle.sigbrol.proofs.runs.sigbrol_guided_run.Tie as tie

-- the outcome of the call
outcome : tie.Start → Outcome Guided
outcome s = let a = s.args in
    guided_call (lent_as a.rows a.columns a.count a.gap a.table.now a.pixels.now) a.layout.now a.weights.now a.rounds a.budget

-- its answer tells that outcome
answered : (c : tie.After-guided_run) →
    let at-start : tie.Start = search in
    c.guided_run.result ≡ guided_answer (outcome (at-start))
unfolding outcome
answered c =
    let at-size-of : tie.After-size_of-size = search in
    rw at-size-of.size_of-size.ensures at c.guided_run.ensures.0

size_of-size-requires : tie.Need-size_of-size-requires
size_of-size-requires c κs = tt

guided_run-requires : tie.Need-guided_run-requires
guided_run-requires c κs = tt

enum_known-run : tie.Need-enum_known-run
enum_known-run c = search rules

put_run-requires : tie.Need-put_run-requires
put_run-requires c κs = tt

done-requires : tie.Need-done-requires
done-requires c κs = tt

enum_known-refusal : tie.Need-enum_known-refusal
enum_known-refusal c = search rules

refused-requires : tie.Need-refused-requires
refused-requires c κs = tt

shape_of-layout-in-Ok : tie.Need-shape_of-layout-in-Ok
shape_of-layout-in-Ok c = let called : tie.After-guided_run = search in called.guided_run.auto.layout

shape_of-weights-in-Ok : tie.Need-shape_of-weights-in-Ok
shape_of-weights-in-Ok c = let called : tie.After-guided_run = search in called.guided_run.auto.weights

returns-in-Ok : tie.Need-returns-in-Ok
unfolding outcome
returns-in-Ok c =
    let put : tie.After-put_run = search in
    let how : tie.In-Ok = search in
    let called : tie.After-guided_run = search in
    let sized : tie.After-size_of-size = search in
    let s : tie.Start = search in
    let o = outcome s in
    let t = ran_told_lem o (sym how.in-Ok.is ∙ answered called) in
    let numbers = put.put_run.ensures in (
      c.done.ensures ∙ reply_by told_run o t,
      (
        rw sized.size_of-size.ensures at called.guided_run.ensures.1.0,
        (
          rw sized.size_of-size.ensures at called.guided_run.ensures.1.1.0,
          (
            rw sized.size_of-size.ensures at called.guided_run.ensures.1.1.1.0,
            (
              numbers.0 ∙ leaves_by told_run (λ r. r.sum) _ o t,
              (
                numbers.1.0 ∙ leaves_by told_run (λ r. r.made) _ o t,
                (
                  numbers.1.1 ∙ leaves_by told_run (λ r. r.moves) _ o t,
                  λ zero.
                      rw (numbers.0, numbers.1.0, numbers.1.1)
                      (rw sized.size_of-size.ensures at (called.guided_run.ensures.1.1.1.1 _ how.in-Ok.is)),
                ),
              ),
            ),
          ),
        ),
      ),
    )

shape_of-layout-in-Err : tie.Need-shape_of-layout-in-Err
shape_of-layout-in-Err c =
    let at-guided-run : tie.After-guided_run = search in
    at-guided-run.guided_run.auto.layout

shape_of-weights-in-Err : tie.Need-shape_of-weights-in-Err
shape_of-weights-in-Err c =
    let at-guided-run : tie.After-guided_run = search in
    at-guided-run.guided_run.auto.weights

returns-in-Err : tie.Need-returns-in-Err
unfolding outcome
returns-in-Err c =
    let at-guided-run : tie.After-guided_run = search in
    let at-size-of : tie.After-size_of-size = search in
    let at-start : tie.Start = search in
    let o = outcome (at-start) in
    let t = ran_told_lem o (sym c.in-Err.is ∙ answered (at-guided-run)) in
    let a = at-start.args in
    let positive =
    guided_numbered (lent_as a.rows a.columns a.count a.gap a.table.now a.pixels.now) a.layout.now a.weights.now a.rounds
    a.budget _ (refusal_told told_run o _ t) in
    let number = ap (λ (x : Reply). x.number) c.refused.ensures in (
      c.refused.ensures ∙ reply_by told_run o t,
      (
        rw at-size-of.size_of-size.ensures at at-guided-run.guided_run.ensures.1.0,
        (
          rw at-size-of.size_of-size.ensures at at-guided-run.guided_run.ensures.1.1.0,
          (
            rw at-size-of.size_of-size.ensures at at-guided-run.guided_run.ensures.1.1.1.0,
            (
              leaves_by told_run (λ r. r.sum) _ o t,
              (leaves_by told_run (λ r. r.made) _ o t, (leaves_by told_run (λ r. r.moves) _ o t, λ zero. absurd (omega (arith, positive, number, zero)))),
            ),
          ),
        ),
      ),
    )

pub sigbrol_guided_run_spec : {M : Type 1} → statement M
sigbrol_guided_run_spec =
    tie.close
    (tie.spec
    size_of-size-requires guided_run-requires enum_known-run put_run-requires done-requires enum_known-refusal refused-requires shape_of-layout-in-Ok
    shape_of-weights-in-Ok (search rules) returns-in-Ok shape_of-layout-in-Err shape_of-weights-in-Err (search rules) returns-in-Err)
