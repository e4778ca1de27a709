-- `sigbrol::layouts::sigbrol_plain_sum` meets its contract by what the answer tells. Assumes nothing.
use Rattle.list_laws.proofs.Kit.{◌∙◌, ◌≡◌, sym, ℕ, rules}
use Rattle.model.specs.Answers.{number_answer}
use Rattle.model.specs.Refusal.{Outcome}
use Rattle.model.specs.Calls.{plain_sum_call}
use Rattle.c_interface.specs.Numbers.{lent_as}
use Rattle.sigbrol.proofs.Told.{reply_by, leaves_by, number_told_lem}
use Rattle.sigbrol.proofs.layouts.sigbrol_plain_sum.Statement.{statement}
use Rattle.sigbrol.proofs.layouts.sigbrol_plain_sum.Tie as tie

-- the outcome of the call
outcome : tie.Start → Outcome ℕ
outcome s = let a = s.args in plain_sum_call (lent_as a.rows a.columns a.count a.gap a.table.now a.pixels.now) a.layout.now

-- its answer tells that outcome
answered : (c : tie.After-plain_sum) →
    let at-start : tie.Start = search in
    c.plain_sum.result ≡ number_answer (outcome (at-start))
unfolding outcome
answered c = rw c.size_of.ensures at c.plain_sum.ensures

size_of-requires : tie.Need-size_of-requires
size_of-requires c κs = tt

plain_sum-requires : tie.Need-plain_sum-requires
plain_sum-requires c κs = tt

enum_known-total : tie.Need-enum_known-total
enum_known-total c = search rules

done-requires : tie.Need-done-requires
done-requires c κs = tt

enum_known-refusal : tie.Need-enum_known-refusal
enum_known-refusal c = search rules

refused-requires : tie.Need-refused-requires
refused-requires c κs = tt

returns-in-Ok : tie.Need-returns-in-Ok
unfolding outcome
returns-in-Ok c =
    let at-plain-sum : tie.After-plain_sum = search in
    let at-start : tie.Start = search in
    let o = outcome (at-start) in
    let t = number_told_lem o (sym c.in-Ok.is ∙ answered (at-plain-sum)) in
    (c.done.ensures ∙ reply_by (λ k. k) o t, leaves_by (λ k. k) (λ k. k) _ o t)

returns-in-Err : tie.Need-returns-in-Err
unfolding outcome
returns-in-Err c =
    let at-plain-sum : tie.After-plain_sum = search in
    let at-start : tie.Start = search in
    let o = outcome (at-start) in
    let t = number_told_lem o (sym c.in-Err.is ∙ answered (at-plain-sum)) in
    (c.refused.ensures ∙ reply_by (λ k. k) o t, leaves_by (λ k. k) (λ k. k) _ o t)

pub sigbrol_plain_sum_spec : {M : Type 1} → statement M
sigbrol_plain_sum_spec =
    tie.close
    (tie.spec
    size_of-requires plain_sum-requires enum_known-total done-requires enum_known-refusal refused-requires returns-in-Ok returns-in-Err)
