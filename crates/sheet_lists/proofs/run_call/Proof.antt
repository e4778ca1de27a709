-- `run_call`: the call that the numbers name is made, and on a ready sheet it comes to what the definition of a call says.
-- Assumes nothing.
use Rattle.list_laws.proofs.Kit.{◌∙◌, ap, rules}
use Rattle.model.specs.Cover.{afterwards}
use Rattle.model.specs.Lent.{lent_by}
use Rattle.model.specs.Calls.{lay_call, withdraw_call}
use Rattle.sheet_refusals.specs.Causes.{sheet_of}
use Rattle.sheet_lists.proofs.CallLists.{answer_after, lay_called, withdraw_called, call_lays, call_withdraws}
use Rattle.sheet_lists.proofs.run_call.Statement.{statement}
use Rattle.sheet_lists.proofs.run_call.Tie as tie

returns-then-call-ne0 : tie.Need-returns-then-call-ne0
returns-then-call-ne0 c =
    let at-withdraw : tie.After-withdraw-answer = search in
    let at-then1 : tie.Then-call-ne0 = search in
    let at-start : tie.Start = search in
    let a = at-start.args in
    let l = lent_by a.size a.table.now a.pixels.now in
    let s = sheet_of a.sheet a.counts.now in
    let answer = at-withdraw.withdraw-answer.ensures in
    rw (answer.0, answer.1, call_withdraws a.call at-then1.if-call-ne0.true)
    (answer_after (withdraw_call l s _) a.sheet a.counts.now ∙ ap (afterwards s) (withdraw_called l s at-start.requires _))

returns : tie.Need-returns
returns c =
    let at-lay : tie.After-lay-answer = search in
    let at-placement-of : tie.After-placement_of-place = search in
    let at-piece-with-turn : tie.After-piece_with_turn-known = search in
    let at-else1 : tie.Else-call-ne0 = search in
    let at-start : tie.Start = search in
    let a = at-start.args in
    let l = lent_by a.size a.table.now a.pixels.now in
    let s = sheet_of a.sheet a.counts.now in
    let answer = at-lay.lay-answer.ensures in
    rw (
      answer.0,
      answer.1,
      call_lays a.call at-else1.if-call-ne0.false,
      ← at-placement-of.placement_of-place.ensures,
      ← at-piece-with-turn.piece_with_turn-known.ensures,
    )
    (answer_after (lay_call l s _ _) a.sheet a.counts.now ∙ ap (afterwards s) (lay_called l s at-start.requires _ _))

pub run_call_spec : {M : Type 1} → statement M
run_call_spec =
    tie.close (tie.spec
    (search rules) (λ c. search rules) (search rules) (search rules) (search rules) returns-then-call-ne0 (search rules) (search rules) (search rules)
    (search rules) (search rules) (search rules) (search rules) (search rules) returns)
