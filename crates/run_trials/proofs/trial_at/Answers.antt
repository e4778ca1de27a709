-- `run_trials::trial_at`: it is what the number at the place stands for.
use Rattle.list_laws.proofs.Kit.{sym}
use Rattle.run_trials.specs.Trials.{trial_of_code}
use Rattle.run_trials.proofs.Listing.{trial_there}
use Rattle.run_trials.proofs.trial_at.Goals as goal

pub returns : goal.returns
unfolding trial_of_code
returns c = rw (c.turn_at.ensures, c.direction_at.ensures, c.from-code.ensures) (sym (trial_there c.args.trials.now c.args.at))
