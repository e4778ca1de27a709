-- `layout_write_calls::put_three` meets its contract: three fields one after the other (`three_text`). Assumes nothing.
use Rattle.list_laws.proofs.Kit.{rules}
use Rattle.layout_write_calls.proofs.Sequel.{written_then, three_text}
use Rattle.layout_write_calls.proofs.put_three.Statement.{statement}
use Rattle.layout_write_calls.proofs.put_three.Tie as tie

returns : tie.Need-returns
returns c =
    let at-put-field2 : tie.After-put_field-after_second = search in
    let at-put-field : tie.After-put_field-after_first = search in
    let at-start : tie.Start = search in
    let a = at-start.args in
    rw (three_text a.first a.second a.third) at
    (written_then (written_then at-put-field.put_field-after_first.ensures at-put-field2.put_field-after_second.ensures) c.before.before.put_field.ensures)

pub put_three_spec : {M : Type 1} → statement M
put_three_spec = tie.close (tie.spec
    (search rules) (search rules) (search rules) (search rules) returns)
