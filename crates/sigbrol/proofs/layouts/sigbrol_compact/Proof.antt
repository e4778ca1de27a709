-- `sigbrol::layouts::sigbrol_compact` meets its contract by what the answer tells. Assumes nothing.
use Rattle.list_laws.proofs.Kit.{◌∙◌, ◌≡◌, ap, sym, arith, rules}
use Rattle.model.specs.Refusal.{Outcome}
use Rattle.model.specs.Compact.{Compacted}
use Rattle.model.specs.Lent.{Lent}
use Rattle.model.specs.Calls.{compact_call, slid_answer}
use Rattle.c_interface.specs.Numbers.{lent_as}
use Rattle.c_interface.specs.declared.Reply.{Reply}
use Rattle.sigbrol.proofs.Told.{reply_by, leaves_by, refusal_told, slid_told}
use Rattle.sigbrol.proofs.Claimed.{compact_numbered}
use Rattle.sigbrol.proofs.layouts.sigbrol_compact.Statement.{statement}
use Rattle.sigbrol.proofs.layouts.sigbrol_compact.Tie as tie

-- the lent job
abbrev lent : tie.Start → Lent
lent s = let a = s.args in lent_as a.rows a.columns a.count a.gap a.table.now a.pixels.now

-- the outcome of the call
outcome : tie.Start → Outcome Compacted
outcome s = compact_call (lent s) s.args.layout.now

-- its answer tells that outcome
answered : (c : tie.After-compact) → let at-start : tie.Start = search in c.compact.result ≡ slid_answer (outcome at-start)
unfolding outcome
answered c = let sized : tie.After-size_of = search in rw sized.size_of.ensures at c.compact.ensures.0

shape_of-layout-in-Ok : tie.Need-shape_of-layout-in-Ok
shape_of-layout-in-Ok c = let called : tie.After-compact = search in called.compact.auto.layout

returns-in-Ok : tie.Need-returns-in-Ok
unfolding outcome
returns-in-Ok c =
    let called : tie.After-compact = search in
    let sized : tie.After-size_of = search in
    let at-start : tie.Start = search in
    let o = outcome at-start in
    let t = slid_told o (sym c.in-Ok.is ∙ answered called) in (
      c.done.ensures ∙ reply_by (λ (a : Compacted). a.slid) o t,
      (
        rw sized.size_of.ensures at called.compact.ensures.1.0,
        (
          leaves_by (λ (a : Compacted). a.slid) (λ k. k) _ o t,
          λ zero. rw sized.size_of.ensures at (called.compact.ensures.1.1 _ c.in-Ok.is),
        ),
      ),
    )

shape_of-layout-in-Err : tie.Need-shape_of-layout-in-Err
shape_of-layout-in-Err c = let called : tie.After-compact = search in called.compact.auto.layout

returns-in-Err : tie.Need-returns-in-Err
unfolding outcome
returns-in-Err c =
    let called : tie.After-compact = search in
    let sized : tie.After-size_of = search in
    let at-start : tie.Start = search in
    let o = outcome at-start in
    let t = slid_told o (sym c.in-Err.is ∙ answered called) in
    let positive = compact_numbered (lent at-start) at-start.args.layout.now _ (refusal_told (λ (a : Compacted). a.slid) o _ t) in
    let number = ap (λ (x : Reply). x.number) c.refused.ensures in (
      c.refused.ensures ∙ reply_by (λ (a : Compacted). a.slid) o t,
      (
        rw sized.size_of.ensures at called.compact.ensures.1.0,
        (leaves_by (λ (a : Compacted). a.slid) (λ k. k) _ o t, λ zero. absurd (omega (arith, positive, number, zero))),
      ),
    )

pub sigbrol_compact_spec : {M : Type 1} → statement M
sigbrol_compact_spec =
    tie.close
    (tie.spec
    (search rules) (search rules) (search rules) (search rules) (search rules) (search rules) shape_of-layout-in-Ok returns-in-Ok
    shape_of-layout-in-Err returns-in-Err)
