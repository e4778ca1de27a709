-- `sigbrol::layouts::sigbrol_check` meets its contract by what the answer tells. Assumes nothing.
use Rattle.list_laws.proofs.Kit.{◌∙◌, ◌≡◌, sym, rules}
use Rattle.model.specs.Answers.{done_answer}
use Rattle.model.specs.Refusal.{Outcome}
use Rattle.model.specs.Calls.{check_call}
use Rattle.c_interface.specs.Numbers.{lent_as}
use Rattle.sigbrol.proofs.Told.{reply_by, done_told_lem}
use Rattle.sigbrol.proofs.layouts.sigbrol_check.Statement.{statement}
use Rattle.sigbrol.proofs.layouts.sigbrol_check.Tie as tie

-- the outcome of the call
outcome : tie.Start → Outcome (Unit {0})
outcome s = let a = s.args in check_call (lent_as a.rows a.columns a.count a.gap a.table.now a.pixels.now) a.layout.now

-- its answer tells that outcome
answered : (c : tie.After-check) →
    let at-start : tie.Start = search in
    c.check.result ≡ done_answer (outcome (at-start))
unfolding outcome
answered c = rw c.size_of.ensures at c.check.ensures

size_of-requires : tie.Need-size_of-requires
size_of-requires c κs = tt

check-requires : tie.Need-check-requires
check-requires c κs = tt

enum_told-1 : tie.Need-enum_told-1
enum_told-1 c = search rules

done-requires : tie.Need-done-requires
done-requires c κs = tt

enum_known-refusal : tie.Need-enum_known-refusal
enum_known-refusal c = search rules

refused-requires : tie.Need-refused-requires
refused-requires c κs = tt

returns-in-Ok : tie.Need-returns-in-Ok
unfolding outcome
returns-in-Ok c =
    let at-check : tie.After-check = search in
    let at-start : tie.Start = search in
    let o = outcome (at-start) in
    let t = done_told_lem o (sym c.in-Ok.is ∙ answered (at-check)) in
    c.done.ensures ∙ reply_by (λ u. tt) o t

returns-in-Err : tie.Need-returns-in-Err
unfolding outcome
returns-in-Err c =
    let at-check : tie.After-check = search in
    let at-start : tie.Start = search in
    let o = outcome (at-start) in
    let t = done_told_lem o (sym c.in-Err.is ∙ answered (at-check)) in
    c.refused.ensures ∙ reply_by (λ u. tt) o t

pub sigbrol_check_spec : {M : Type 1} → statement M
sigbrol_check_spec =
    tie.close
    (tie.spec
    size_of-requires check-requires enum_told-1 done-requires enum_known-refusal refused-requires returns-in-Ok returns-in-Err)
