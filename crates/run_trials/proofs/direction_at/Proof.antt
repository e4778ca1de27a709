-- `run_trials::direction_at` meets its contract, by the place. Assumes nothing.
use Rattle.list_laws.proofs.Kit.{sym}
use Rattle.run_trials.specs.Trials.{direction_at}
use Rattle.run_trials.proofs.Listing.{direction_last}
use Rattle.run_trials.proofs.direction_at.Statement.{statement}
use Rattle.run_trials.proofs.direction_at.Tie as tie

returns-then-place-eq0 : tie.Need-returns-then-place-eq0
unfolding direction_at
returns-then-place-eq0 c = rw c.if-place-eq0.true

returns : tie.Need-returns
returns c = sym (direction_last _ c.if-place-eq0.false)

pub direction_at_spec : {M : Type 1} → statement M
direction_at_spec = tie.close (tie.spec
    returns-then-place-eq0 returns)
