-- `sigbrol::texts::sigbrol_write_layout` meets its contract by what the answer tells. Assumes nothing.
use Rattle.list_laws.proofs.Kit.{◌∙◌, ◌≡◌, sym, List, ℕ, length, rules}
use Rattle.model.specs.Answers.{count_answer}
use Rattle.model.specs.Refusal.{Outcome}
use Rattle.model.specs.Calls.{write_layout_call}
use Rattle.c_interface.specs.Numbers.{lent_as}
use Rattle.sigbrol.proofs.Told.{reply_by, leaves_by, count_told}
use Rattle.sigbrol.proofs.texts.sigbrol_write_layout.Statement.{statement}
use Rattle.sigbrol.proofs.texts.sigbrol_write_layout.Tie as tie

-- the outcome of the call
outcome : tie.Start → Outcome (List ℕ)
outcome s = let a = s.args in
    write_layout_call (lent_as a.rows a.columns a.count a.gap a.table.now a.pixels.now) a.layout.now (length a.text.now)

-- its answer tells that outcome
answered : (c : tie.After-write_layout) →
    let at-start : tie.Start = search in
    c.write_layout.result ≡ count_answer (outcome (at-start))
unfolding outcome
answered c = rw c.size_of.ensures at c.write_layout.ensures.0

size_of-requires : tie.Need-size_of-requires
size_of-requires c κs = tt

write_layout-requires : tie.Need-write_layout-requires
write_layout-requires c κs = tt

enum_known-length : tie.Need-enum_known-length
enum_known-length c = search rules

done-requires : tie.Need-done-requires
done-requires c κs = tt

enum_known-refusal : tie.Need-enum_known-refusal
enum_known-refusal c = search rules

refused-requires : tie.Need-refused-requires
refused-requires c κs = tt

shape_of-text-in-Ok : tie.Need-shape_of-text-in-Ok
shape_of-text-in-Ok c =
    let at-write-layout : tie.After-write_layout = search in
    at-write-layout.write_layout.auto.text

returns-in-Ok : tie.Need-returns-in-Ok
unfolding outcome
returns-in-Ok c =
    let at-write-layout : tie.After-write_layout = search in
    let at-size-of : tie.After-size_of = search in
    let at-start : tie.Start = search in
    let o = outcome (at-start) in
    let t = count_told o (sym c.in-Ok.is ∙ answered (at-write-layout)) in (
      c.done.ensures ∙ reply_by (λ text. length text) o t,
      (rw at-size-of.size_of.ensures at at-write-layout.write_layout.ensures.1, leaves_by (λ text. length text) (λ k. k) _ o t),
    )

shape_of-text-in-Err : tie.Need-shape_of-text-in-Err
shape_of-text-in-Err c =
    let at-write-layout : tie.After-write_layout = search in
    at-write-layout.write_layout.auto.text

returns-in-Err : tie.Need-returns-in-Err
unfolding outcome
returns-in-Err c =
    let at-write-layout : tie.After-write_layout = search in
    let at-size-of : tie.After-size_of = search in
    let at-start : tie.Start = search in
    let o = outcome (at-start) in
    let t = count_told o (sym c.in-Err.is ∙ answered (at-write-layout)) in (
      c.refused.ensures ∙ reply_by (λ text. length text) o t,
      (rw at-size-of.size_of.ensures at at-write-layout.write_layout.ensures.1, leaves_by (λ text. length text) (λ k. k) _ o t),
    )

pub sigbrol_write_layout_spec : {M : Type 1} → statement M
sigbrol_write_layout_spec =
    tie.close
    (tie.spec
    size_of-requires write_layout-requires enum_known-length done-requires enum_known-refusal refused-requires shape_of-text-in-Ok
    returns-in-Ok shape_of-text-in-Err returns-in-Err)
