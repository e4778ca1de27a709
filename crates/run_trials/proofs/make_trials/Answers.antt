-- `run_trials::make_trials` meets its contract: each turn adds the trials of one piece more, and at the end none is left. Assumes nothing.
use Rattle.list_laws.proofs.Kit.{◌≡◌, arith, take}
use Rattle.model.specs.Lent.{job_of}
use Rattle.run_trials.specs.Trials.{trials_of}
use Rattle.run_trials.proofs.Listing.{growing_begin, growing_more, growing_end}
use Rattle.run_trials.proofs.make_trials.Goals as goal

pub loop-i-init : goal.loop-i-init
loop-i-init c = (omega arith, λ pixels. growing_begin _)

pub loop-i-preserved : goal.loop-i-preserved
unfolding job_of
loop-i-preserved c =
    let added = c.add_piece-count.ensures in
    let few = added.few in (
      omega arith,
      λ pixels. growing_more _ (trials_of (take c.loop-i.count c.loop-i.store)) _ c.loop-i.i c.loop-i-test.true (c.loop-i.invariant.1 pixels)
          (added.listed c.args.size pixels),
    )

pub returns : goal.returns
unfolding job_of
returns c =
    let done : c.loop-i.i ≡ c.args.size.count = omega arith in
    record { listed = λ pixels. growing_end _ _ c.loop-i.i done (c.loop-i.invariant.1 pixels); few = omega arith }
