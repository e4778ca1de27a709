-- `sigbrol::layouts::sigbrol_used_length` meets its contract by what the answer tells. Assumes nothing.
use Rattle.list_laws.proofs.Kit.{◌∙◌, ◌≡◌, ap, sym, ℕ, arith, rules}
use Rattle.model.specs.Answers.{number_answer}
use Rattle.model.specs.Refusal.{Outcome}
use Rattle.model.specs.Calls.{used_length_call}
use Rattle.c_interface.specs.Numbers.{lent_as}
use Rattle.c_interface.specs.declared.Reply.{Reply}
use Rattle.sigbrol.proofs.Told.{reply_by, leaves_by, refusal_told, number_told_lem}
use Rattle.sigbrol.proofs.Claimed.{used_numbered}
use Rattle.sigbrol.proofs.layouts.sigbrol_used_length.Statement.{statement}
use Rattle.sigbrol.proofs.layouts.sigbrol_used_length.Tie as tie

-- the outcome of the call
outcome : tie.Start → Outcome ℕ
outcome s = let a = s.args in used_length_call (lent_as a.rows a.columns a.count a.gap a.table.now a.pixels.now) a.layout.now

-- its answer tells that outcome
answered : (c : tie.After-used_length) →
    let at-start : tie.Start = search in
    c.used_length.result ≡ number_answer (outcome (at-start))
unfolding outcome
answered c = rw c.size_of.ensures at c.used_length.ensures.0

size_of-requires : tie.Need-size_of-requires
size_of-requires c κs = tt

used_length-requires : tie.Need-used_length-requires
used_length-requires c κs = tt

enum_known-length : tie.Need-enum_known-length
enum_known-length c = search rules

done-requires : tie.Need-done-requires
done-requires c κs = tt

enum_known-refusal : tie.Need-enum_known-refusal
enum_known-refusal c = search rules

refused-requires : tie.Need-refused-requires
refused-requires c κs = tt

returns-in-Ok : tie.Need-returns-in-Ok
unfolding outcome
returns-in-Ok c =
    let at-used-length : tie.After-used_length = search in
    let at-start : tie.Start = search in
    let o = outcome (at-start) in
    let t = number_told_lem o (sym c.in-Ok.is ∙ answered (at-used-length)) in
    let sized : tie.After-size_of = search in (
      c.done.ensures ∙ reply_by (λ k. k) o t,
      (
        leaves_by (λ k. k) (λ k. k) _ o t,
        λ zero. rw sized.size_of.ensures at (at-used-length.used_length.ensures.1 _ c.in-Ok.is),
      ),
    )

returns-in-Err : tie.Need-returns-in-Err
unfolding outcome
returns-in-Err c =
    let at-used-length : tie.After-used_length = search in
    let at-start : tie.Start = search in
    let o = outcome (at-start) in
    let t = number_told_lem o (sym c.in-Err.is ∙ answered (at-used-length)) in
    let a = at-start.args in
    let positive =
    used_numbered (lent_as a.rows a.columns a.count a.gap a.table.now a.pixels.now) a.layout.now _ (refusal_told (λ k. k) o _ t) in
    let number = ap (λ (x : Reply). x.number) c.refused.ensures in (
      c.refused.ensures ∙ reply_by (λ k. k) o t,
      (leaves_by (λ k. k) (λ k. k) _ o t, λ zero. absurd (omega (arith, positive, number, zero))),
    )

pub sigbrol_used_length_spec : {M : Type 1} → statement M
sigbrol_used_length_spec =
    tie.close
    (tie.spec
    size_of-requires used_length-requires enum_known-length done-requires enum_known-refusal refused-requires returns-in-Ok returns-in-Err)
