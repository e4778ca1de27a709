-- `text_fields::reading::is_digit` makes the two tests of its definition. Assumes nothing.
use Rattle.list_laws.proofs.Kit.{le-leb, lt-leb}
use Rattle.text_fields.proofs.reading.is_digit.Statement.{statement}
use Rattle.text_fields.proofs.reading.is_digit.Tie as tie

returns-then-b-lt48 : tie.Need-returns-then-b-lt48
returns-then-b-lt48 c = simp (lt-leb _ _ c.if-b-lt48.true)

returns : tie.Need-returns
returns c = simp (le-leb _ _ c.if-b-lt48.false)

pub is_digit_spec : {M : Type 1} → statement M
is_digit_spec = tie.close (tie.spec
    returns-then-b-lt48 returns)
