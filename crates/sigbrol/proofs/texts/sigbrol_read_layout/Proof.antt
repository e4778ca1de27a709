-- `sigbrol::texts::sigbrol_read_layout` meets its contract by what the answer tells. Assumes nothing.
use Rattle.list_laws.proofs.Kit.{◌∙◌, ◌≡◌, sym, length, rules}
use Rattle.model.specs.Layout.{Layout}
use Rattle.model.specs.Answers.{done_answer}
use Rattle.model.specs.Refusal.{Outcome}
use Rattle.model.specs.Calls.{read_layout_call}
use Rattle.c_interface.specs.Numbers.{lent_as}
use Rattle.sigbrol.proofs.Told.{reply_by, done_told_lem}
use Rattle.sigbrol.proofs.texts.sigbrol_read_layout.Statement.{statement}
use Rattle.sigbrol.proofs.texts.sigbrol_read_layout.Tie as tie

-- the outcome of the call
outcome : tie.Start → Outcome Layout
outcome s = let a = s.args in
    read_layout_call (lent_as a.rows a.columns a.count a.gap a.table.now a.pixels.now) a.text.now (length a.layout.now)

-- its answer tells that outcome
answered : (c : tie.After-read_layout) →
    let at-start : tie.Start = search in
    c.read_layout.result ≡ done_answer (outcome (at-start))
unfolding outcome
answered c = rw c.size_of.ensures at c.read_layout.ensures.0

size_of-requires : tie.Need-size_of-requires
size_of-requires c κs = tt

read_layout-requires : tie.Need-read_layout-requires
read_layout-requires c κs = tt

enum_told-1 : tie.Need-enum_told-1
enum_told-1 c = search rules

done-requires : tie.Need-done-requires
done-requires c κs = tt

enum_known-refusal : tie.Need-enum_known-refusal
enum_known-refusal c = search rules

refused-requires : tie.Need-refused-requires
refused-requires c κs = tt

shape_of-layout-in-Ok : tie.Need-shape_of-layout-in-Ok
shape_of-layout-in-Ok c =
    let at-read-layout : tie.After-read_layout = search in
    at-read-layout.read_layout.auto.layout

returns-in-Ok : tie.Need-returns-in-Ok
unfolding outcome
returns-in-Ok c =
    let at-read-layout : tie.After-read_layout = search in
    let at-size-of : tie.After-size_of = search in
    let at-start : tie.Start = search in
    let o = outcome (at-start) in
    let t = done_told_lem o (sym c.in-Ok.is ∙ answered (at-read-layout)) in
    (c.done.ensures ∙ reply_by (λ v. tt) o t, rw at-size-of.size_of.ensures at at-read-layout.read_layout.ensures.1)

shape_of-layout-in-Err : tie.Need-shape_of-layout-in-Err
shape_of-layout-in-Err c =
    let at-read-layout : tie.After-read_layout = search in
    at-read-layout.read_layout.auto.layout

returns-in-Err : tie.Need-returns-in-Err
unfolding outcome
returns-in-Err c =
    let at-read-layout : tie.After-read_layout = search in
    let at-size-of : tie.After-size_of = search in
    let at-start : tie.Start = search in
    let o = outcome (at-start) in
    let t = done_told_lem o (sym c.in-Err.is ∙ answered (at-read-layout)) in
    (c.refused.ensures ∙ reply_by (λ v. tt) o t, rw at-size-of.size_of.ensures at at-read-layout.read_layout.ensures.1)

pub sigbrol_read_layout_spec : {M : Type 1} → statement M
sigbrol_read_layout_spec =
    tie.close
    (tie.spec
    size_of-requires read_layout-requires enum_told-1 done-requires enum_known-refusal refused-requires shape_of-layout-in-Ok returns-in-Ok
    shape_of-layout-in-Err returns-in-Err)
