-- `program_text::put_end_line` meets its contract: the word, four numbers and byte 10, one after the other. Assumes nothing.
use Rattle.list_laws.proofs.Kit.{rules}
use Rattle.model.specs.Text.{line_end}
use Rattle.model.specs.Program.{word_line}
use Rattle.layout_write_calls.proofs.Sequel.{byte_written, written_then}
use Rattle.program_text.proofs.put_end_line.Statement.{statement}
use Rattle.program_text.proofs.put_end_line.Tie as tie

returns : tie.Need-returns
unfolding word_line
returns c =
    let at-put-number4 : tie.After-put_number-after_used = search in
    let at-put-number3 : tie.After-put_number-after_moves = search in
    let at-put-number2 : tie.After-put_number-after_made = search in
    let at-put-number : tie.After-put_number-after_sum = search in
    let at-put-end-word : tie.After-put_end_word-after_word = search in
    let word = at-put-end-word.put_end_word-after_word.ensures in
    let sum = at-put-number.put_number-after_sum.ensures in
    let made = at-put-number2.put_number-after_made.ensures in
    let moves = at-put-number3.put_number-after_moves.ensures in
    let used = at-put-number4.put_number-after_used.ensures in
    let end = byte_written _ _ _ _ line_end c.before.before.put_byte.ensures in
    written_then (written_then (written_then (written_then (written_then word sum) made) moves) used) end

pub put_end_line_spec : {M : Type 1} → statement M
put_end_line_spec =
    tie.close (tie.spec
    (search rules) (search rules) (search rules) (search rules) (search rules) (search rules) (search rules) returns)
