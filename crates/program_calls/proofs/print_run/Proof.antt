-- `program_calls::print_run` meets its contract: the text stands at the front of the local buffer, and is copied where the lent one has room for it.
-- Assumes nothing.
use Rattle.std.specs.Prelude.{Err}
use Rattle.list_laws.proofs.Kit.{◌∙◌, ap, sym, ◌≤◌, ℕ, le_of_eq, arith, length, length-replicate, length-take-le, sets, rules}
use Rattle.model.specs.Program.{program_text}
use Rattle.list_laws.proofs.Stores.{sets_filled}
use Rattle.program_text.specs.Output.{output_bound}
use Rattle.program_calls.proofs.Printing.{TextLeaves, front_written, leaves_short, leaves_written, workspace_left}
use Rattle.program_calls.proofs.print_run.Statement.{statement}
use Rattle.program_calls.proofs.print_run.Tie as tie

slice_bounds-print_text-end-2 : tie.Need-slice_bounds-print_text-end-2
slice_bounds-print_text-end-2 c =
    let used : tie.After-words_used-used = search in
    used.words_used-used.ensures.within

slice_bounds-print_text-end-3 : tie.Need-slice_bounds-print_text-end-3
slice_bounds-print_text-end-3 c =
    let used : tie.After-words_used-used = search in
    sym (length-take-le _ _ used.words_used-used.ensures.within)

returns-then-short : tie.Need-returns-then-short
returns-then-short c =
    let used : tie.After-words_used-used = search in
    let at-print-text : tie.After-print_text-count = search in
    let at-start : tie.Start = search in
    let a = at-start.args in
    let w = at-print-text.print_text-count.ensures in
    let end = w.end in
    let long = c.if-short.true in
    let t : TextLeaves a.input.now a.output.now (Err c.plain_refusal.result) a.output.now =
    rw c.plain_refusal.ensures (leaves_short a.input.now a.output.now (omega arith) w.short) in
    let left = workspace_left a.input.now (length a.output.now) a.workspace.now at-print-text.print_text-count.new.workspace
    used.words_used-used.result used.words_used-used.ensures
    at-print-text.print_text-count.auto.workspace w.short in
    (t.0, (t.1.0, (left, t.1.1)))

slice_bounds-put_word-end : tie.Need-slice_bounds-put_word-end
slice_bounds-put_word-end c = sym (length-take-le _ _ (search rules))

returns : tie.Need-returns
returns c =
    let used : tie.After-words_used-used = search in
    let at-else1 : tie.Else-short = search in
    let at-print-text : tie.After-print_text-count = search in
    let at-start : tie.Start = search in
    let a = at-start.args in
    let w = at-print-text.print_text-count.ensures in
    let end = w.end in
    let short = w.short in
    let room = at-else1.if-short.false in
    let fits : length (program_text a.input.now) ≤ length a.output.now = omega arith in
    let front = front_written _ (program_text a.input.now) output_bound _ _ (le_of_eq (sym (length-replicate {A = ℕ} 4096 0))) w in
    let put : tie.After-put_word = search in
    let t = leaves_written a.input.now a.output.now at-print-text.print_text-count.result put.put_word.new.text (omega arith)
    (put.put_word.ensures.1 ∙ ap (sets a.output.now 0) front ∙ sets_filled a.output.now (program_text a.input.now) fits)
    (omega arith) (omega arith) in
    let left = workspace_left a.input.now (length a.output.now) a.workspace.now at-print-text.print_text-count.new.workspace
    used.words_used-used.result used.words_used-used.ensures
    at-print-text.print_text-count.auto.workspace short in
    (t.0, (t.1.0, (left, t.1.1)))

pub print_run_spec : {M : Type 1} → statement M
print_run_spec =
    tie.close (tie.spec
    (search rules) (search rules) slice_bounds-print_text-end-2 slice_bounds-print_text-end-3 (search rules) (search rules) (search rules)
    returns-then-short (search rules) slice_bounds-put_word-end (search rules) (search rules) (search rules) returns)
