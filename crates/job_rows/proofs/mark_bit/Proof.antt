-- `job_rows::mark_bit` makes the two tests of its definition. Assumes nothing.
use Rattle.list_laws.proofs.Kit.{eq-eqb, ne_eqb}
use Rattle.job_rows.specs.Stores.{mark_bit}
use Rattle.job_rows.proofs.mark_bit.Statement.{statement}
use Rattle.job_rows.proofs.mark_bit.Tie as tie

returns-then-b-eq35 : tie.Need-returns-then-b-eq35
returns-then-b-eq35 c = simp (eq-eqb _ _ c.if-b-eq35.true, mark_bit)

returns-then-b-eq46 : tie.Need-returns-then-b-eq46
returns-then-b-eq46 c = simp (ne_eqb _ _ c.before.if-b-eq35.false, eq-eqb _ _ c.if-b-eq46.true, mark_bit)

returns : tie.Need-returns
returns c = simp (ne_eqb _ _ c.before.if-b-eq35.false, ne_eqb _ _ c.if-b-eq46.false, mark_bit)

pub mark_bit_spec : {M : Type 1} → statement M
mark_bit_spec = tie.close (tie.spec
    returns-then-b-eq35 returns-then-b-eq46 returns)
