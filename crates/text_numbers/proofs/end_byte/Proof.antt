-- `text_numbers::end_byte` meets its contract: byte 10 where no field is behind, a comma else. Assumes nothing.
use Rattle.list_laws.proofs.Kit.{arith, rules}
use Rattle.text_numbers.proofs.Steps.{comma_before}
use Rattle.text_numbers.proofs.end_byte.Statement.{statement}
use Rattle.text_numbers.proofs.end_byte.Tie as tie

returns : tie.Need-returns
returns c = (comma_before _ c.if-last.false, omega arith)

pub end_byte_spec : {M : Type 1} → statement M
end_byte_spec = tie.close (tie.spec
    (λ c. search rules) returns)
