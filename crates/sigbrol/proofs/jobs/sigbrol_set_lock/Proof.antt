-- `sigbrol::jobs::sigbrol_set_lock` meets its contract by what the answer tells. Assumes nothing.
use Rattle.list_laws.proofs.Kit.{◌∙◌, ◌≡◌, sym, List, ℕ, rules}
use Rattle.model.specs.Answers.{done_answer}
use Rattle.model.specs.Refusal.{Outcome}
use Rattle.model.specs.Calls.{set_lock_call}
use Rattle.c_interface.specs.Numbers.{lent_as}
use Rattle.sigbrol.proofs.Told.{reply_by, done_told_lem}
use Rattle.sigbrol.proofs.jobs.sigbrol_set_lock.Statement.{statement}
use Rattle.sigbrol.proofs.jobs.sigbrol_set_lock.Tie as tie

-- the outcome of the call
outcome : tie.Start → Outcome (List (List ℕ))
outcome s =
    let a = s.args in
    set_lock_call (lent_as a.rows a.columns a.count a.gap a.table.now a.pixels.now) a.piece a.station

-- its answer tells that outcome
answered : (c : tie.After-set_lock) →
    let at-start : tie.Start = search in
    c.set_lock.result ≡ done_answer (outcome (at-start))
unfolding outcome
answered c =
    let at-size-of : tie.After-size_of = search in
    rw at-size-of.size_of.ensures at c.set_lock.ensures.0

shape_of-table-in-Ok : tie.Need-shape_of-table-in-Ok
shape_of-table-in-Ok c =
    let at-set-lock : tie.After-set_lock = search in
    at-set-lock.set_lock.auto.table

returns-in-Ok : tie.Need-returns-in-Ok
unfolding outcome
returns-in-Ok c =
    let at-set-lock : tie.After-set_lock = search in
    let at-size-of : tie.After-size_of = search in
    let at-start : tie.Start = search in
    let o = outcome (at-start) in
    let t = done_told_lem o (sym c.in-Ok.is ∙ answered (at-set-lock)) in
    (c.done.ensures ∙ reply_by (λ v. tt) o t, rw at-size-of.size_of.ensures at at-set-lock.set_lock.ensures.1)

shape_of-table-in-Err : tie.Need-shape_of-table-in-Err
shape_of-table-in-Err c =
    let at-set-lock : tie.After-set_lock = search in
    at-set-lock.set_lock.auto.table

returns-in-Err : tie.Need-returns-in-Err
unfolding outcome
returns-in-Err c =
    let at-set-lock : tie.After-set_lock = search in
    let at-size-of : tie.After-size_of = search in
    let at-start : tie.Start = search in
    let o = outcome (at-start) in
    let t = done_told_lem o (sym c.in-Err.is ∙ answered (at-set-lock)) in
    (c.refused.ensures ∙ reply_by (λ v. tt) o t, rw at-size-of.size_of.ensures at at-set-lock.set_lock.ensures.1)

pub sigbrol_set_lock_spec : {M : Type 1} → statement M
sigbrol_set_lock_spec =
    tie.close (tie.spec
    (search rules) (search rules) (search rules) (search rules) (search rules) (search rules) shape_of-table-in-Ok returns-in-Ok
    shape_of-table-in-Err returns-in-Err)
