-- `sigbrol::strips::sigbrol_strips` meets its contract by what the answer tells. Assumes nothing.
use Rattle.list_laws.proofs.Kit.{◌∙◌, ◌≡◌, sym, rules}
use Rattle.model.specs.Answers.{done_answer}
use Rattle.model.specs.Refusal.{Outcome}
use Rattle.model.specs.Calls.{Stores, strips_call, stores_after}
use Rattle.c_interface.specs.Numbers.{lent_as}
use Rattle.strip_calls.specs.Stores.{stores_by}
use Rattle.sigbrol.proofs.Told.{reply_by, done_told_lem}
use Rattle.sigbrol.proofs.strips.sigbrol_strips.Statement.{statement}
use Rattle.sigbrol.proofs.strips.sigbrol_strips.Tie as tie

-- the lent stores
lentStores : tie.Start → Stores
lentStores s = let a = s.args in stores_by a.row_strips.now a.row_starts.now a.column_strips.now a.column_starts.now

-- the outcome of the call
outcome : tie.Start → Outcome Stores
outcome s = let a = s.args in strips_call (lent_as a.rows a.columns a.count a.gap a.table.now a.pixels.now) a.turns.now (lentStores s)

-- its answer tells that outcome
answered : (c : tie.After-strips) →
    let at-start : tie.Start = search in
    c.strips.result ≡ done_answer (outcome (at-start))
unfolding outcome lentStores
answered c =
    let at-size-of : tie.After-size_of-size = search in
    rw at-size-of.size_of-size.ensures at c.strips.ensures.0

-- and so do the stores
left : (c : tie.After-strips) →
    let at-start : tie.Start = search in
    stores_by c.strips.new.row_strips c.strips.new.row_starts c.strips.new.column_strips
    c.strips.new.column_starts ≡ stores_after (lentStores (at-start)) (outcome (at-start))
unfolding outcome lentStores
left c =
    let at-size-of : tie.After-size_of-size = search in
    rw at-size-of.size_of-size.ensures at c.strips.ensures.1

size_of-size-requires : tie.Need-size_of-size-requires
size_of-size-requires c κs = tt

strips-requires : tie.Need-strips-requires
strips-requires c κs = tt

enum_told-1 : tie.Need-enum_told-1
enum_told-1 c = search rules

done-requires : tie.Need-done-requires
done-requires c κs = tt

enum_known-refusal : tie.Need-enum_known-refusal
enum_known-refusal c = search rules

refused-requires : tie.Need-refused-requires
refused-requires c κs = tt

shape_of-row_strips-in-Ok : tie.Need-shape_of-row_strips-in-Ok
shape_of-row_strips-in-Ok c =
    let at-strips : tie.After-strips = search in
    at-strips.strips.auto.row_strips

shape_of-row_starts-in-Ok : tie.Need-shape_of-row_starts-in-Ok
shape_of-row_starts-in-Ok c =
    let at-strips : tie.After-strips = search in
    at-strips.strips.auto.row_starts

shape_of-column_strips-in-Ok : tie.Need-shape_of-column_strips-in-Ok
shape_of-column_strips-in-Ok c =
    let at-strips : tie.After-strips = search in
    at-strips.strips.auto.column_strips

shape_of-column_starts-in-Ok : tie.Need-shape_of-column_starts-in-Ok
shape_of-column_starts-in-Ok c =
    let at-strips : tie.After-strips = search in
    at-strips.strips.auto.column_starts

returns-in-Ok : tie.Need-returns-in-Ok
unfolding outcome lentStores
returns-in-Ok c =
    let at-strips : tie.After-strips = search in
    let at-start : tie.Start = search in
    let o = outcome (at-start) in
    (c.done.ensures ∙ reply_by (λ s. tt) o (done_told_lem o (sym c.in-Ok.is ∙ answered (at-strips))), left (at-strips))

shape_of-row_strips-in-Err : tie.Need-shape_of-row_strips-in-Err
shape_of-row_strips-in-Err c =
    let at-strips : tie.After-strips = search in
    at-strips.strips.auto.row_strips

shape_of-row_starts-in-Err : tie.Need-shape_of-row_starts-in-Err
shape_of-row_starts-in-Err c =
    let at-strips : tie.After-strips = search in
    at-strips.strips.auto.row_starts

shape_of-column_strips-in-Err : tie.Need-shape_of-column_strips-in-Err
shape_of-column_strips-in-Err c =
    let at-strips : tie.After-strips = search in
    at-strips.strips.auto.column_strips

shape_of-column_starts-in-Err : tie.Need-shape_of-column_starts-in-Err
shape_of-column_starts-in-Err c =
    let at-strips : tie.After-strips = search in
    at-strips.strips.auto.column_starts

returns-in-Err : tie.Need-returns-in-Err
unfolding outcome lentStores
returns-in-Err c =
    let at-strips : tie.After-strips = search in
    let at-start : tie.Start = search in
    let o = outcome (at-start) in
    (c.refused.ensures ∙ reply_by (λ s. tt) o (done_told_lem o (sym c.in-Err.is ∙ answered (at-strips))), left (at-strips))

pub sigbrol_strips_spec : {M : Type 1} → statement M
sigbrol_strips_spec =
    tie.close
    (tie.spec
    size_of-size-requires strips-requires enum_told-1 done-requires enum_known-refusal refused-requires shape_of-row_strips-in-Ok
    shape_of-row_starts-in-Ok shape_of-column_strips-in-Ok shape_of-column_starts-in-Ok returns-in-Ok shape_of-row_strips-in-Err
    shape_of-row_starts-in-Err shape_of-column_strips-in-Err shape_of-column_starts-in-Err returns-in-Err)
