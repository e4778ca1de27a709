-- `x_at`: a horizontal's first coordinate is x, a vertical's is y. Assumes nothing.
use Rattle.list_laws.proofs.Kit.{eq-eqb, ne_eqb, rules}
use Rattle.model.specs.Buffer.{direction_of}
use Rattle.cut_steps.proofs.x_at.Statement.{statement}
use Rattle.cut_steps.proofs.x_at.Tie as tie

returns-then-entry-eq0 : tie.Need-returns-then-entry-eq0
returns-then-entry-eq0 c = rw (eq-eqb _ _ c.if-entry-eq0.true, direction_of)

returns : tie.Need-returns
returns c = rw (ne_eqb _ _ c.if-entry-eq0.false, direction_of)

pub x_at_spec : {M : Type 1} → statement M
x_at_spec = tie.close (tie.spec
    (search rules) returns-then-entry-eq0 (search rules) returns)
