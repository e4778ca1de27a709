-- `text_fields::reading::byte_at`: past the end the list has its default. Assumes nothing.
use Rattle.list_laws.proofs.Kit.{sym, get_or-eq_default, arith, rules}
use Rattle.text_fields.proofs.reading.byte_at.Statement.{statement}
use Rattle.text_fields.proofs.reading.byte_at.Tie as tie

returns : tie.Need-returns
returns c = sym (get_or-eq_default c.before.args.text.now 0 (omega (arith, c.if-p-text.false)))

pub byte_at_spec : {M : Type 1} → statement M
byte_at_spec = tie.close (tie.spec
    (search rules) (search rules) returns)
