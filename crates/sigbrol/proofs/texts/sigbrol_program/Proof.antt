-- `sigbrol::texts::sigbrol_program` meets its contract by what the answer tells. Assumes nothing.
use Rattle.list_laws.proofs.Kit.{◌∙◌, ◌≡◌, sym, List, ℕ, length, rules}
use Rattle.model.specs.Answers.{count_answer}
use Rattle.model.specs.Refusal.{Outcome}
use Rattle.model.specs.Program.{program_call}
use Rattle.sigbrol.proofs.Told.{reply_by, leaves_by, count_told}
use Rattle.sigbrol.proofs.texts.sigbrol_program.Statement.{statement}
use Rattle.sigbrol.proofs.texts.sigbrol_program.Tie as tie

-- the outcome of the call
outcome : tie.Start → Outcome (List ℕ)
outcome s = let a = s.args in program_call a.input.now (length a.output.now)

-- its answer tells that outcome
answered : (c : tie.After-print_run) →
    let at-start : tie.Start = search in
    c.print_run.result ≡ count_answer (outcome (at-start))
unfolding outcome
answered c = c.print_run.ensures.0

print_run-requires : tie.Need-print_run-requires
print_run-requires c κs = tt

enum_known-count : tie.Need-enum_known-count
enum_known-count c = search rules

done-requires : tie.Need-done-requires
done-requires c κs = tt

enum_known-refusal : tie.Need-enum_known-refusal
enum_known-refusal c = search rules

refused-requires : tie.Need-refused-requires
refused-requires c κs = tt

shape_of-output-in-Ok : tie.Need-shape_of-output-in-Ok
shape_of-output-in-Ok c =
    let at-print-run : tie.After-print_run = search in
    at-print-run.print_run.auto.output

returns-in-Ok : tie.Need-returns-in-Ok
unfolding outcome
returns-in-Ok c =
    let at-print-run : tie.After-print_run = search in
    let at-start : tie.Start = search in
    let o = outcome (at-start) in
    let t = count_told o (sym c.in-Ok.is ∙ answered (at-print-run)) in (
      c.done.ensures ∙ reply_by (λ text. length text) o t,
      (
        at-print-run.print_run.ensures.1.0,
        (at-print-run.print_run.ensures.1.1.0, (leaves_by (λ text. length text) (λ k. k) _ o t, at-print-run.print_run.ensures.1.1.1)),
      ),
    )

shape_of-output-in-Err : tie.Need-shape_of-output-in-Err
shape_of-output-in-Err c =
    let at-print-run : tie.After-print_run = search in
    at-print-run.print_run.auto.output

returns-in-Err : tie.Need-returns-in-Err
unfolding outcome
returns-in-Err c =
    let at-print-run : tie.After-print_run = search in
    let at-start : tie.Start = search in
    let o = outcome (at-start) in
    let t = count_told o (sym c.in-Err.is ∙ answered (at-print-run)) in (
      c.refused.ensures ∙ reply_by (λ text. length text) o t,
      (
        at-print-run.print_run.ensures.1.0,
        (at-print-run.print_run.ensures.1.1.0, (leaves_by (λ text. length text) (λ k. k) _ o t, at-print-run.print_run.ensures.1.1.1)),
      ),
    )

pub sigbrol_program_spec : {M : Type 1} → statement M
sigbrol_program_spec =
    tie.close
    (tie.spec
    print_run-requires enum_known-count done-requires enum_known-refusal refused-requires shape_of-output-in-Ok (search rules) returns-in-Ok
    shape_of-output-in-Err (search rules) returns-in-Err)
