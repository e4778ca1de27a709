-- `sigbrol::pairs_of::sigbrol_penalty` meets its contract by what the answer tells. Assumes nothing.
use Rattle.list_laws.proofs.Kit.{◌∙◌, ◌≡◌, sym, ℕ, rules}
use Rattle.model.specs.Answers.{number_answer}
use Rattle.model.specs.Refusal.{Outcome}
use Rattle.model.specs.Calls.{penalty_call}
use Rattle.c_interface.specs.Numbers.{lent_as}
use Rattle.sigbrol.proofs.Told.{reply_by, leaves_by, number_told_lem}
use Rattle.sigbrol.proofs.pairs_of.sigbrol_penalty.Statement.{statement}
use Rattle.sigbrol.proofs.pairs_of.sigbrol_penalty.Tie as tie

-- the outcome of the call
outcome : tie.Start → Outcome ℕ
outcome s = let a = s.args in penalty_call (lent_as a.rows a.columns a.count a.gap a.table.now a.pixels.now) a.layout.now a.i a.k

-- its answer tells that outcome
answered : (c : tie.After-penalty) →
    let at-start : tie.Start = search in
    c.penalty.result ≡ number_answer (outcome (at-start))
unfolding outcome
answered c = rw c.size_of.ensures at c.penalty.ensures.0

size_of-requires : tie.Need-size_of-requires
size_of-requires c κs = tt

penalty-requires : tie.Need-penalty-requires
penalty-requires c κs = tt

enum_known-amount : tie.Need-enum_known-amount
enum_known-amount c = search rules

overflow_cast-penalty : tie.Need-overflow_cast-penalty
overflow_cast-penalty c = let called : tie.After-penalty = search in let small = called.penalty.ensures.1 _ c.in-Ok.is in search rules

done-requires : tie.Need-done-requires
done-requires c κs = tt

enum_known-refusal : tie.Need-enum_known-refusal
enum_known-refusal c = search rules

refused-requires : tie.Need-refused-requires
refused-requires c κs = tt

returns-in-Ok : tie.Need-returns-in-Ok
unfolding outcome
returns-in-Ok c =
    let at-penalty : tie.After-penalty = search in
    let at-start : tie.Start = search in
    let o = outcome (at-start) in
    let t = number_told_lem o (sym c.in-Ok.is ∙ answered (at-penalty)) in
    (c.done.ensures ∙ reply_by (λ a. a) o t, leaves_by (λ a. a) (λ a. a) _ o t)

returns-in-Err : tie.Need-returns-in-Err
unfolding outcome
returns-in-Err c =
    let at-penalty : tie.After-penalty = search in
    let at-start : tie.Start = search in
    let o = outcome (at-start) in
    let t = number_told_lem o (sym c.in-Err.is ∙ answered (at-penalty)) in
    (c.refused.ensures ∙ reply_by (λ a. a) o t, leaves_by (λ a. a) (λ a. a) _ o t)

pub sigbrol_penalty_spec : {M : Type 1} → statement M
sigbrol_penalty_spec =
    tie.close
    (tie.spec
    size_of-requires penalty-requires enum_known-amount overflow_cast-penalty done-requires enum_known-refusal refused-requires returns-in-Ok
    returns-in-Err)
