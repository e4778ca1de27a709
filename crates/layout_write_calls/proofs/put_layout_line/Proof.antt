-- `layout_write_calls::put_layout_line` meets its contract: a word and three fields. Assumes nothing.
use Rattle.list_laws.proofs.Kit.{rules}
use Rattle.model.specs.LayoutText.{layout_word}
use Rattle.layout_write_calls.proofs.Sequel.{bytes_written, written_then}
use Rattle.layout_write_calls.proofs.put_layout_line.Statement.{statement}
use Rattle.layout_write_calls.proofs.put_layout_line.Tie as tie

returns : tie.Need-returns
returns c =
    let at-put-word : tie.After-put_word-next = search in
    written_then (bytes_written _ _ _ _ layout_word at-put-word.put_word-next.ensures) c.before.before.put_three.ensures

pub put_layout_line_spec : {M : Type 1} → statement M
put_layout_line_spec =
    tie.close (tie.spec
    (search rules) (search rules) (search rules) (search rules) (search rules) (search rules) returns)
