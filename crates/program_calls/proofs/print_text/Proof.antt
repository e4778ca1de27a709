-- `program_calls::print_text` meets its contract, by the length of the input. Assumes nothing.
use Rattle.list_laws.proofs.Kit.{◌∙◌, ap, sym, arith, rules}
use Rattle.model.specs.Program.{refusal_text}
use Rattle.call_laws.proofs.Programs.{program_too_long, program_reads}
use Rattle.program_calls.proofs.Printing.{text_printed}
use Rattle.program_calls.proofs.print_text.Statement.{statement}
use Rattle.program_calls.proofs.print_text.Tie as tie

returns-then-long : tie.Need-returns-then-long
returns-then-long c =
    let at-plain-refusal : tie.After-plain_refusal = search in
    let at-then1 : tie.Then-long = search in
    let at-start : tie.Start = search in
    let a = at-start.args in
    text_printed a.input.now _ (program_too_long a.input.now at-then1.if-long.true ∙ ap refusal_text (sym at-plain-refusal.plain_refusal.ensures))
    c.put_refusal_line.ensures (omega arith)

returns : tie.Need-returns
returns c =
    let at-else1 : tie.Else-long = search in
    let printed : tie.After-read_and_print = search in
    let at-start : tie.Start = search in
    let a = at-start.args in
    text_printed a.input.now _ (program_reads a.input.now at-else1.if-long.false) printed.read_and_print.ensures (omega arith)

pub print_text_spec : {M : Type 1} → statement M
print_text_spec = tie.close (tie.spec
    (search rules) (search rules) (search rules) returns-then-long (search rules) (search rules) (search rules) returns)
