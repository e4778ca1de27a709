-- `run_trials::turn_at` meets its contract, by the place. Assumes nothing.
use Rattle.run_trials.specs.Trials.{turn_at}
use Rattle.run_trials.proofs.Listing.{turn_last}
use Rattle.run_trials.proofs.turn_at.Statement.{statement}
use Rattle.run_trials.proofs.turn_at.Tie as tie

returns-in-0 : tie.Need-returns-in-0
unfolding turn_at
returns-in-0 c = rw c.in-0.is

returns-in-1 : tie.Need-returns-in-1
unfolding turn_at
returns-in-1 c = rw c.in-1.is

returns-in-2 : tie.Need-returns-in-2
unfolding turn_at
returns-in-2 c = rw c.in-2.is

returns-in_default : tie.Need-returns-in_default
returns-in_default c = rw (turn_last _ c.in_default.in_default-own.rest.0.0.1 c.in_default.in_default-own.rest.0.1 c.in_default.in_default-own.rest.1)

pub turn_at_spec : {M : Type 1} → statement M
turn_at_spec = tie.close (tie.spec
    returns-in-0 returns-in-1 returns-in-2 returns-in_default)
