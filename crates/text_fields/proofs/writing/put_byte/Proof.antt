-- `text_fields::writing::put_byte`: a store past the end changes nothing. Assumes nothing.
use Rattle.list_laws.proofs.Kit.{refl, sym, set_out, arith, rules}
use Rattle.text_fields.proofs.writing.put_byte.Statement.{statement}
use Rattle.text_fields.proofs.writing.put_byte.Tie as tie

returns-then-text-at : tie.Need-returns-then-text-at
returns-then-text-at c = (refl, sym (set_out c.before.args.text.now _ _ (omega (arith, c.if-text-at.true))))

pub put_byte_spec : {M : Type 1} → statement M
put_byte_spec = tie.close (tie.spec
    (search rules) returns-then-text-at (search rules) (search rules) (search rules) (search rules))
