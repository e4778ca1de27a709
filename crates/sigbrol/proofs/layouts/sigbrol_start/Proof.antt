-- `sigbrol::layouts::sigbrol_start` meets its contract by what the answer tells. Assumes nothing.
use Rattle.list_laws.proofs.Kit.{◌∙◌, ◌≡◌, ap, sym, arith, rules}
use Rattle.model.specs.Layout.{Layout}
use Rattle.model.specs.Answers.{done_answer}
use Rattle.model.specs.Refusal.{Outcome}
use Rattle.model.specs.Calls.{start_call}
use Rattle.c_interface.specs.Numbers.{lent_as}
use Rattle.c_interface.specs.declared.Reply.{Reply}
use Rattle.sigbrol.proofs.Told.{reply_by, refusal_told, done_told_lem}
use Rattle.sigbrol.proofs.Claimed.{start_numbered}
use Rattle.sigbrol.proofs.layouts.sigbrol_start.Statement.{statement}
use Rattle.sigbrol.proofs.layouts.sigbrol_start.Tie as tie

-- the outcome of the call
outcome : tie.Start → Outcome Layout
outcome s = let a = s.args in start_call (lent_as a.rows a.columns a.count a.gap a.table.now a.pixels.now) a.layout.now

-- its answer tells that outcome
answered : (c : tie.After-start) →
    let at-start : tie.Start = search in
    c.start.result ≡ done_answer (outcome (at-start))
unfolding outcome
answered c = rw c.size_of.ensures at c.start.ensures.0

size_of-requires : tie.Need-size_of-requires
size_of-requires c κs = tt

start-requires : tie.Need-start-requires
start-requires c κs = tt

enum_told-1 : tie.Need-enum_told-1
enum_told-1 c = search rules

done-requires : tie.Need-done-requires
done-requires c κs = tt

enum_known-refusal : tie.Need-enum_known-refusal
enum_known-refusal c = search rules

refused-requires : tie.Need-refused-requires
refused-requires c κs = tt

shape_of-layout-in-Ok : tie.Need-shape_of-layout-in-Ok
shape_of-layout-in-Ok c =
    let at-start : tie.After-start = search in
    at-start.start.auto.layout

returns-in-Ok : tie.Need-returns-in-Ok
unfolding outcome
returns-in-Ok c =
    let at-after-start : tie.After-start = search in
    let at-size-of : tie.After-size_of = search in
    let at-start : tie.Start = search in
    let o = outcome (at-start) in
    let t = done_told_lem o (sym c.in-Ok.is ∙ answered (at-after-start)) in (
      c.done.ensures ∙ reply_by (λ v. tt) o t,
      (
        rw at-size-of.size_of.ensures at at-after-start.start.ensures.1.0,
        λ zero. rw at-size-of.size_of.ensures at (at-after-start.start.ensures.1.1 c.in-Ok.is),
      ),
    )

shape_of-layout-in-Err : tie.Need-shape_of-layout-in-Err
shape_of-layout-in-Err c =
    let at-start : tie.After-start = search in
    at-start.start.auto.layout

returns-in-Err : tie.Need-returns-in-Err
unfolding outcome
returns-in-Err c =
    let at-after-start : tie.After-start = search in
    let at-size-of : tie.After-size_of = search in
    let at-start : tie.Start = search in
    let o = outcome (at-start) in
    let t = done_told_lem o (sym c.in-Err.is ∙ answered (at-after-start)) in
    let a = at-start.args in
    let positive =
    start_numbered (lent_as a.rows a.columns a.count a.gap a.table.now a.pixels.now) a.layout.now _
    (refusal_told (λ v. tt) o _ t) in
    let number = ap (λ (x : Reply). x.number) c.refused.ensures in (
      c.refused.ensures ∙ reply_by (λ v. tt) o t,
      (
        rw at-size-of.size_of.ensures at at-after-start.start.ensures.1.0,
        λ zero. absurd (omega (arith, positive, number, zero)),
      ),
    )

pub sigbrol_start_spec : {M : Type 1} → statement M
sigbrol_start_spec =
    tie.close
    (tie.spec
    size_of-requires start-requires enum_told-1 done-requires enum_known-refusal refused-requires shape_of-layout-in-Ok returns-in-Ok
    shape_of-layout-in-Err returns-in-Err)
