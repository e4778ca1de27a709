-- `c_results::put_step` meets its contract: the arm tells the step. Assumes nothing.
use Rattle.list_laws.proofs.Kit.{rules}
use Rattle.c_results.proofs.put_step.Statement.{statement}
use Rattle.c_results.proofs.put_step.Tie as tie

returns-in-Done : tie.Need-returns-in-Done
returns-in-Done c =
    let e = c.in-Done.is in (rw e, (rw e, rw e))

returns-in-Lift : tie.Need-returns-in-Lift
returns-in-Lift c =
    let e = c.in-Lift.is in (rw e, (rw e, rw e))

returns-in-Cut : tie.Need-returns-in-Cut
returns-in-Cut c =
    let e = c.in-Cut.is in (rw e, (rw e, rw e))

pub put_step_spec : {M : Type 1} → statement M
put_step_spec = tie.close (tie.spec
    (search rules) (search rules) (search rules) returns-in-Done returns-in-Lift returns-in-Cut)
