-- The loop's invariant of `run_trials::make_trials`: the list and the trials of the pieces that are left make up the job's.
use Rattle.list_laws.proofs.Kit.{List, ◌*◌, ◌≤◌, ℕ, take}
use Rattle.model.specs.Lent.{lent_by, job_of}
use Rattle.run_trials.specs.Trials.{trials_of}
use Rattle.run_trials.proofs.Listing.{Growing}
use Rattle.run_trials.proofs.make_trials.Given as goal

abbrev pub invariant-loop-i : goal.invariant-loop-i
invariant-loop-i l =
    (l.count ≤ 8 * l.i) × ((pixels : List ℕ) → Growing (job_of (lent_by l.fn.size l.table pixels)) (trials_of (take l.count l.store)) l.i)
