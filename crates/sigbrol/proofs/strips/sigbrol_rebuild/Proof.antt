-- `sigbrol::strips::sigbrol_rebuild` meets its contract by what the answer tells. Assumes nothing.
use Rattle.list_laws.proofs.Kit.{◌∙◌, ◌≡◌, sym, length, rules}
use Rattle.model.specs.Piece.{Shape}
use Rattle.model.specs.Answers.{done_answer}
use Rattle.model.specs.Refusal.{Outcome}
use Rattle.model.specs.Calls.{rebuild_call, pixels_after}
use Rattle.model.specs.Buffer.{direction_of}
use Rattle.strip_rebuild_calls.specs.Again.{Again}
use Rattle.sigbrol.proofs.Told.{reply_by, done_told_lem}
use Rattle.sigbrol.proofs.strips.sigbrol_rebuild.Statement.{statement}
use Rattle.sigbrol.proofs.strips.sigbrol_rebuild.Tie as tie

-- the outcome of the call
outcome : tie.Start → Outcome Shape
outcome s = let a = s.args in rebuild_call (direction_of a.vertical) a.columns a.rows a.strips.now (length a.pixels.now)

-- its answer tells that outcome
answered : (c : tie.After-rebuild) →
    let at-start : tie.Start = search in
    c.rebuild.result ≡ done_answer (outcome (at-start))
unfolding outcome
answered c = rw c.direction_of.ensures at c.rebuild.ensures.0

-- and so do the pixels
left : (c : tie.After-rebuild) →
    let at-start : tie.Start = search in
    c.rebuild.new.pixels ≡ pixels_after at-start.args.pixels.now (outcome (at-start))
unfolding outcome
left c = rw c.direction_of.ensures at c.rebuild.ensures.1.0

-- the pixels of a set stand in the buffer again
again : (c : tie.After-rebuild) →
    let at-start : tie.Start = search in
    Again (direction_of at-start.args.vertical) at-start.args.columns at-start.args.rows at-start.args.strips.now at-start.args.pixels.now
    c.rebuild.new.pixels
again c = rw c.direction_of.ensures at c.rebuild.ensures.1.1

direction_of-requires : tie.Need-direction_of-requires
direction_of-requires c κs = tt

rebuild-requires : tie.Need-rebuild-requires
rebuild-requires c κs = tt

enum_told-1 : tie.Need-enum_told-1
enum_told-1 c = search rules

done-requires : tie.Need-done-requires
done-requires c κs = tt

enum_known-refusal : tie.Need-enum_known-refusal
enum_known-refusal c = search rules

refused-requires : tie.Need-refused-requires
refused-requires c κs = tt

shape_of-pixels-in-Ok : tie.Need-shape_of-pixels-in-Ok
shape_of-pixels-in-Ok c =
    let at-rebuild : tie.After-rebuild = search in
    at-rebuild.rebuild.auto.pixels

returns-in-Ok : tie.Need-returns-in-Ok
unfolding outcome
returns-in-Ok c =
    let at-rebuild : tie.After-rebuild = search in
    let at-start : tie.Start = search in
    let o = outcome (at-start) in (
      c.done.ensures ∙ reply_by (λ s. tt) o (done_told_lem o (sym c.in-Ok.is ∙ answered (at-rebuild))),
      (left (at-rebuild), again (at-rebuild)),
    )

shape_of-pixels-in-Err : tie.Need-shape_of-pixels-in-Err
shape_of-pixels-in-Err c =
    let at-rebuild : tie.After-rebuild = search in
    at-rebuild.rebuild.auto.pixels

returns-in-Err : tie.Need-returns-in-Err
unfolding outcome
returns-in-Err c =
    let at-rebuild : tie.After-rebuild = search in
    let at-start : tie.Start = search in
    let o = outcome (at-start) in (
      c.refused.ensures ∙ reply_by (λ s. tt) o (done_told_lem o (sym c.in-Err.is ∙ answered (at-rebuild))),
      (left (at-rebuild), again (at-rebuild)),
    )

pub sigbrol_rebuild_spec : {M : Type 1} → statement M
sigbrol_rebuild_spec =
    tie.close
    (tie.spec
    direction_of-requires rebuild-requires enum_told-1 done-requires enum_known-refusal refused-requires shape_of-pixels-in-Ok returns-in-Ok
    shape_of-pixels-in-Err returns-in-Err)
