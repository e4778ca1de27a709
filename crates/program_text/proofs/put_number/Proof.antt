-- `program_text::put_number` meets its contract: a comma and the digits behind it. Assumes nothing.
use Rattle.list_laws.proofs.Kit.{rules}
use Rattle.model.specs.Text.{comma}
use Rattle.layout_write_calls.proofs.Sequel.{byte_written, written_then}
use Rattle.program_text.proofs.Words.{decimal_written}
use Rattle.program_text.proofs.put_number.Statement.{statement}
use Rattle.program_text.proofs.put_number.Tie as tie

returns : tie.Need-returns
returns c =
    let at-put-byte : tie.After-put_byte-next = search in
    let at-start : tie.Start = search in
    let a = at-start.args in
    written_then (byte_written a.text.now a.at _ _ comma at-put-byte.put_byte-next.ensures)
    (decimal_written _ _ _ _ a.k c.before.before.put_decimal.ensures)

pub put_number_spec : {M : Type 1} → statement M
put_number_spec = tie.close (tie.spec
    (search rules) (search rules) (search rules) returns)
