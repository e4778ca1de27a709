-- `pair_nofit_calls::no_fit_column`: the offset is passed on as it is; answer and buffer are the call's, so the offsets lie in their range. Assumes nothing.
use Rattle.list_laws.proofs.Kit.{◌∙◌, ◌≡◌, ap, List, length, ℤ, rules}
use mir.Syntax.{w32}
use mir.Val.{to_z, of_z}
use mir.ValLaws.{to_z-of_z}
use Rattle.model.specs.Lent.{Lent, lent_by}
use Rattle.model.specs.Calls.{LentStretch, no_fit_call, runs_after}
use Rattle.model.specs.declared.Direction.TheVariants.{Vertical}
use Rattle.model.specs.Overlap.{OffsetRun}
use Rattle.model.specs.Refusal.{Outcome}
use Rattle.model.specs.Answers.{count_answer}
use Rattle.call_laws.proofs.NoFits.{offsets_answered}
use Rattle.pair_nofit_calls.specs.Lines.{lent_stretch}
use Rattle.pair_nofit_calls.proofs.no_fit_column.Statement.{statement}
use Rattle.pair_nofit_calls.proofs.no_fit_column.Tie as tie

returns : tie.Need-returns
returns c =
    let at-start : tie.Start = search in
    let a = at-start.args in
    let l : Lent = lent_by a.size a.table.now a.pixels.now in
    let p : LentStretch = lent_stretch a.first.piece a.first.turn a.a.now in
    let q : LentStretch = lent_stretch a.second.piece a.second.turn a.b.now in
    let o = a.offset.0 in
    let e : to_z w32 (of_z w32 o) ≡ o = to_z-of_z w32 o (record { sfits = c.before.before.struct_told-1.given.0.1 }) in
    let call : ℤ → Outcome (List OffsetRun) = λ z. no_fit_call Vertical l p q z (length a.out.now) in
    offsets_answered Vertical l p q o a.out.now (c.before.no_fit.ensures.0 ∙ ap (λ (z : ℤ). count_answer (call z)) e)
    (c.before.no_fit.ensures.1 ∙ ap (λ (z : ℤ). runs_after a.out.now (call z)) e)

pub no_fit_column_spec : {M : Type 1} → statement M
no_fit_column_spec = tie.close (tie.spec
    (search rules) (search rules) returns)
