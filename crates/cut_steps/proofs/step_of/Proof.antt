-- `step_of`: half the number is the line's, and an even step lifts. Assumes nothing.
use Rattle.list_laws.proofs.Kit.{◌∙◌, ap, sym, ◌/◌, ◌<◌, length, arith, rules}
use Rattle.model.specs.Cut.{step_in}
use Rattle.cut_steps.proofs.Numbered.{even_step, odd_step, past_step, even_exact, odd_exact, past_exact}
use Rattle.cut_steps.proofs.step_of.Statement.{statement}
use Rattle.cut_steps.proofs.step_of.Tie as tie

returns-then-lines-line : tie.Need-returns-then-lines-line
returns-then-lines-line c =
    let s : tie.Start = search in
    let a = s.args in
    (sym (ap (step_in a.pitch) (past_step a.lines.now a.step c.if-lines-line.true)), past_exact a.lines.now a.pitch a.step c.if-lines-line.true)

-- the line is there
below : (e : tie.Else-lines-line) → let s : tie.Start = search in s.args.step / 2 < length s.args.lines.now
below e = omega arith

returns-then-even : tie.Need-returns-then-even
returns-then-even c =
    let s : tie.Start = search in
    let e : tie.Else-lines-line = search in
    let even : tie.Then-even = search in
    let a = s.args in (
      c.lift_to.ensures.0 ∙ sym (ap (step_in a.pitch) (even_step a.lines.now a.step (below e) even.if-even.true)),
      even_exact a.lines.now a.pitch a.step (below e) even.if-even.true c.lift_to.ensures.1,
    )

returns : tie.Need-returns
returns c =
    let s : tie.Start = search in
    let e : tie.Else-lines-line = search in
    let odd : tie.Else-even = search in
    let a = s.args in (
      c.cut_to.ensures.0 ∙ sym (ap (step_in a.pitch) (odd_step a.lines.now a.step (below e) odd.if-even.false)),
      odd_exact a.lines.now a.pitch a.step (below e) odd.if-even.false c.cut_to.ensures.1,
    )

pub step_of_spec : {M : Type 1} → statement M
step_of_spec = tie.close (tie.spec
    returns-then-lines-line (search rules) (search rules) (search rules) returns-then-even (search rules) returns)
