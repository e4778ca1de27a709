-- `program_text::put_refusal_line` meets its contract: the word, two numbers and byte 10, one after the other. Assumes nothing.
use Rattle.list_laws.proofs.Kit.{rules}
use Rattle.model.specs.Text.{bytes, line_end}
use Rattle.model.specs.Program.{word_line}
use Rattle.layout_write_calls.proofs.Sequel.{bytes_written, byte_written, written_then}
use Rattle.program_text.proofs.put_refusal_line.Statement.{statement}
use Rattle.program_text.proofs.put_refusal_line.Tie as tie

returns : tie.Need-returns
unfolding word_line
returns c =
    let at-put-number2 : tie.After-put_number-after_line = search in
    let at-put-number : tie.After-put_number-after_number = search in
    let at-put-word : tie.After-put_word-after_word = search in
    let word = bytes_written _ _ _ _ (bytes "refused") at-put-word.put_word-after_word.ensures in
    let number = at-put-number.put_number-after_number.ensures in
    let line = at-put-number2.put_number-after_line.ensures in
    let end = byte_written _ _ _ _ line_end c.before.before.put_byte.ensures in
    written_then (written_then (written_then word number) line) end

pub put_refusal_line_spec : {M : Type 1} → statement M
put_refusal_line_spec =
    tie.close (tie.spec
    (search rules) (search rules) (search rules) (search rules) (search rules) (search rules) (search rules) returns)
