-- `program_text::put_end_word` meets its contract, by the test of the sum. Assumes nothing.
use Rattle.list_laws.proofs.Kit.{rules}
use Rattle.program_text.proofs.Words.{clear_written, open_written}
use Rattle.program_text.proofs.put_end_word.Statement.{statement}
use Rattle.program_text.proofs.put_end_word.Tie as tie

returns-then-clear : tie.Need-returns-then-clear
returns-then-clear c =
    let at-then1 : tie.Then-clear = search in
    clear_written _ _ _ _ _ at-then1.if-clear.true c.before.before.put_word.ensures

returns : tie.Need-returns
returns c =
    let at-else1 : tie.Else-clear = search in
    open_written _ _ _ _ _ at-else1.if-clear.false c.before.before.put_word-2.ensures

pub put_end_word_spec : {M : Type 1} → statement M
put_end_word_spec =
    tie.close (tie.spec
    (search rules) (search rules) returns-then-clear (search rules) (search rules) returns)
