-- `c_interface::line_of` meets its contract: the test decides. Assumes nothing.
use Rattle.list_laws.proofs.Kit.{eq-eqb, ne_eqb}
use Rattle.c_interface.specs.Numbers.{line_of}
use Rattle.c_interface.proofs.line_of.Statement.{statement}
use Rattle.c_interface.proofs.line_of.Tie as tie

returns-then-vertical-eq0 : tie.Need-returns-then-vertical-eq0
returns-then-vertical-eq0 c = rw (eq-eqb c.before.args.vertical 0 c.if-vertical-eq0.true, line_of)

returns-else-vertical-eq0 : tie.Need-returns-else-vertical-eq0
returns-else-vertical-eq0 c = rw (ne_eqb c.before.args.vertical 0 c.if-vertical-eq0.false, line_of)

pub line_of_spec : {M : Type 1} → statement M
line_of_spec = tie.close (tie.spec
    returns-then-vertical-eq0 returns-else-vertical-eq0)
