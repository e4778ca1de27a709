-- `sigbrol::cut::sigbrol_cut_lines` meets its contract by what the answer tells. Assumes nothing.
use Rattle.list_laws.proofs.Kit.{◌∙◌, ◌≡◌, ap, sym, List, length, arith, rules}
use Rattle.model.specs.Answers.{count_answer}
use Rattle.model.specs.Refusal.{Outcome}
use Rattle.model.specs.Cut.{CutLine}
use Rattle.model.specs.Lent.{Lent}
use Rattle.model.specs.Calls.{cut_lines_call}
use Rattle.c_interface.specs.Numbers.{lent_as}
use Rattle.c_interface.specs.declared.Reply.{Reply}
use Rattle.sigbrol.proofs.Told.{reply_by, leaves_by, refusal_told, count_told}
use Rattle.sigbrol.proofs.Claimed.{cut_lines_numbered}
use Rattle.sigbrol.proofs.cut.sigbrol_cut_lines.Statement.{statement}
use Rattle.sigbrol.proofs.cut.sigbrol_cut_lines.Tie as tie

-- the lent job
abbrev lent : tie.Start → Lent
lent s = let a = s.args in lent_as a.rows a.columns a.count a.gap a.table.now a.pixels.now

-- the outcome of the call
outcome : tie.Start → Outcome (List CutLine)
outcome s = cut_lines_call (lent s) s.args.layout.now (length s.args.lines.now)

-- its answer tells that outcome
answered : (c : tie.After-cut_lines) → let at-start : tie.Start = search in c.cut_lines.result ≡ count_answer (outcome at-start)
unfolding outcome
answered c = let sized : tie.After-size_of = search in rw sized.size_of.ensures at c.cut_lines.ensures.0

shape_of-lines-in-Ok : tie.Need-shape_of-lines-in-Ok
shape_of-lines-in-Ok c = let called : tie.After-cut_lines = search in called.cut_lines.auto.lines

returns-in-Ok : tie.Need-returns-in-Ok
unfolding outcome
returns-in-Ok c =
    let called : tie.After-cut_lines = search in
    let sized : tie.After-size_of = search in
    let at-start : tie.Start = search in
    let o = outcome at-start in
    let t = count_told o (sym c.in-Ok.is ∙ answered called) in (
      c.done.ensures ∙ reply_by (λ ls. length ls) o t,
      (
        rw sized.size_of.ensures at called.cut_lines.ensures.1.0,
        (
          leaves_by (λ ls. length ls) (λ k. k) _ o t,
          λ zero. rw sized.size_of.ensures at (called.cut_lines.ensures.1.1 _ c.in-Ok.is),
        ),
      ),
    )

shape_of-lines-in-Err : tie.Need-shape_of-lines-in-Err
shape_of-lines-in-Err c = let called : tie.After-cut_lines = search in called.cut_lines.auto.lines

returns-in-Err : tie.Need-returns-in-Err
unfolding outcome
returns-in-Err c =
    let called : tie.After-cut_lines = search in
    let sized : tie.After-size_of = search in
    let at-start : tie.Start = search in
    let o = outcome at-start in
    let t = count_told o (sym c.in-Err.is ∙ answered called) in
    let positive = cut_lines_numbered (lent at-start) at-start.args.layout.now _ _ (refusal_told (λ ls. length ls) o _ t) in
    let number = ap (λ (x : Reply). x.number) c.refused.ensures in (
      c.refused.ensures ∙ reply_by (λ ls. length ls) o t,
      (
        rw sized.size_of.ensures at called.cut_lines.ensures.1.0,
        (leaves_by (λ ls. length ls) (λ k. k) _ o t, λ zero. absurd (omega (arith, positive, number, zero))),
      ),
    )

pub sigbrol_cut_lines_spec : {M : Type 1} → statement M
sigbrol_cut_lines_spec =
    tie.close
    (tie.spec
    (search rules) (search rules) (search rules) (search rules) (search rules) (search rules) shape_of-lines-in-Ok returns-in-Ok
    shape_of-lines-in-Err returns-in-Err)
