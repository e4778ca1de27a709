-- `text_fields::reading::digit_value`: a digit is at least 48 and below 58. Assumes nothing.
use Rattle.list_laws.proofs.Kit.{refl, arith, rules}
use Rattle.text_fields.proofs.Steps.{digit_range}
use Rattle.text_fields.proofs.reading.digit_value.Statement.{statement}
use Rattle.text_fields.proofs.reading.digit_value.Tie as tie

overflow_sub-result : tie.Need-overflow_sub-result
overflow_sub-result c = let h = digit_range c.args.b c.requires in omega arith

returns : tie.Need-returns
returns c = let h = digit_range c.args.b c.requires in (refl, omega arith)

pub digit_value_spec : {M : Type 1} → statement M
digit_value_spec = tie.close (tie.spec
    overflow_sub-result (search rules) returns)
