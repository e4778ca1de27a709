-- `sigbrol::strips::start_of` meets its contract: the test decides. Assumes nothing.
use Rattle.list_laws.proofs.Kit.{arith, rules, eq-eqb, ne_eqb}
use Rattle.sigbrol.specs.Places.{start_in}
use Rattle.sigbrol.proofs.strips.start_of.Statement.{statement}
use Rattle.sigbrol.proofs.strips.start_of.Tie as tie

bounds-row_starts-piece : tie.Need-bounds-row_starts-piece
bounds-row_starts-piece c = c.requires.0

overflow_cast-result : tie.Need-overflow_cast-result
overflow_cast-result c = search rules

bounds-column_starts-piece : tie.Need-bounds-column_starts-piece
bounds-column_starts-piece c = c.requires.1

overflow_cast-result-else-vertical-eq0 : tie.Need-overflow_cast-result-else-vertical-eq0
overflow_cast-result-else-vertical-eq0 c = search rules

returns-then-vertical-eq0 : tie.Need-returns-then-vertical-eq0
returns-then-vertical-eq0 c = rw (eq-eqb c.args.vertical 0 c.if-vertical-eq0.true, start_in)

returns-else-vertical-eq0 : tie.Need-returns-else-vertical-eq0
returns-else-vertical-eq0 c = rw (ne_eqb c.args.vertical 0 c.if-vertical-eq0.false, start_in)

pub start_of_spec : {M : Type 1} → statement M
start_of_spec =
    tie.close (tie.spec
    (search rules) bounds-row_starts-piece overflow_cast-result (search rules) bounds-column_starts-piece overflow_cast-result-else-vertical-eq0
    returns-then-vertical-eq0 returns-else-vertical-eq0)
