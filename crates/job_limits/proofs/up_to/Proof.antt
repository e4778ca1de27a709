-- `job_limits::up_to` makes the two tests of its definition. Assumes nothing.
use Rattle.list_laws.proofs.Kit.{le-leb, lt-leb}
use Rattle.job_limits.proofs.up_to.Statement.{statement}
use Rattle.job_limits.proofs.up_to.Tie as tie

returns-then-k-lt1 : tie.Need-returns-then-k-lt1
returns-then-k-lt1 c = simp (lt-leb _ _ c.if-k-lt1.true)

returns : tie.Need-returns
returns c = simp (le-leb _ _ c.if-k-lt1.false)

pub up_to_spec : {M : Type 1} → statement M
up_to_spec = tie.close (tie.spec
    returns-then-k-lt1 returns)
