-- `line_step`: a wrong pitch refuses, else the step is given; of the lines of a layout it is the layout's. Assumes nothing.
use Rattle.std.specs.Prelude.{Ok, Err}
use Rattle.list_laws.proofs.Kit.{◌∙◌, ◌≡◌, ap, subst, sym, map, ℕ, arith, rules}
use Rattle.model.specs.Cut.{entry_line}
use Rattle.model.specs.Calls.{line_step_call}
use Rattle.model.specs.declared.CutStep.{CutStep}
use Rattle.model.specs.declared.Refusal.{Refusal}
use Rattle.cut_laws.specs.Exact.{StepExact}
use Rattle.cut_step_calls.specs.Answers.{step_answer}
use Rattle.cut_step_calls.proofs.Steps.{line_refused, line_given, same_answer}
use Rattle.cut_step_calls.proofs.line_step.Statement.{statement}
use Rattle.cut_step_calls.proofs.line_step.Tie as tie

returns-then-pitch_wrong : tie.Need-returns-then-pitch_wrong
returns-then-pitch_wrong c =
    let s : tie.Start = search in
    let asked : tie.After-pitch_wrong = search in
    let wrong : tie.Then-pitch_wrong = search in
    let a = s.args in
    let answer : Err c.plain_refusal.result ≡ step_answer (line_step_call a.lines.now a.pitch a.step) =
    ap (λ (r : Refusal). Err r) c.plain_refusal.ensures
    ∙ sym (ap step_answer (line_refused a.lines.now a.pitch a.step _ asked.pitch_wrong.ensures wrong.if-pitch_wrong.true)) in
    (answer, (same_answer a.lines.now a.pitch a.step answer, λ t told. let z : ◌≡◌ {A = ℕ} 0 1 = cc in absurd (omega arith)))

returns : tie.Need-returns
returns c =
    let s : tie.Start = search in
    let asked : tie.After-pitch_wrong = search in
    let right : tie.Else-pitch_wrong = search in
    let a = s.args in
    let answer : Ok c.step_of.result ≡ step_answer (line_step_call a.lines.now a.pitch a.step) =
    ap (λ (t : CutStep). Ok t) c.step_of.ensures.0
    ∙ sym (ap step_answer (line_given a.lines.now a.pitch a.step _ asked.pitch_wrong.ensures right.if-pitch_wrong.false)) in (
      answer,
      (
        same_answer a.lines.now a.pitch a.step answer,
        λ t told. let same : c.step_of.result ≡ t = cc in
            subst (StepExact (map entry_line a.lines.now) a.pitch a.step) same c.step_of.ensures.1,
      ),
    )

pub line_step_spec : {M : Type 1} → statement M
line_step_spec = tie.close (tie.spec
    (search rules) (search rules) returns-then-pitch_wrong (search rules) returns)
