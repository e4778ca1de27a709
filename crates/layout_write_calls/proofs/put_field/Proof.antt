-- `layout_write_calls::put_field` meets its contract: a number and a byte one after the other. Assumes nothing.
use Rattle.list_laws.proofs.Kit.{arith, rules}
use Rattle.text_fields.proofs.Steps.{decimal_short}
use Rattle.layout_write_calls.proofs.Sequel.{number_written, byte_written, written_then}
use Rattle.layout_write_calls.proofs.put_field.Statement.{statement}
use Rattle.layout_write_calls.proofs.put_field.Tie as tie

put_byte-requires : tie.Need-put_byte-requires
put_byte-requires c κs =
    let at-put-number : tie.After-put_number-next = search in
    let at-start : tie.Start = search in
    let e = at-put-number.put_number-next.ensures.0 in let s = decimal_short 5 at-start.args.k in omega arith

returns : tie.Need-returns
returns c =
    let at-put-number : tie.After-put_number-next = search in
    let at-start : tie.Start = search in
    written_then (number_written _ _ _ _ at-start.args.k at-put-number.put_number-next.ensures)
    (byte_written _ _ _ _ at-start.args.end c.before.before.put_byte.ensures)

pub put_field_spec : {M : Type 1} → statement M
put_field_spec = tie.close (tie.spec
    (search rules) put_byte-requires (search rules) returns)
