-- `job_check::lent::stored_box_tight` takes sides and start of the box from its entry. Assumes nothing.
use Rattle.list_laws.proofs.Kit.{arith, rules}
use Rattle.job_check.proofs.Boxes.{sides}
use Rattle.job_check.proofs.lent.stored_box_tight.Statement.{statement}
use Rattle.job_check.proofs.lent.stored_box_tight.Tie as tie

box_tight-requires : tie.Need-box_tight-requires
box_tight-requires c κs =
    let at-start : tie.Start = search in
    let l : tie.After-columns_of-columns = search in
    let s = sides at-start.args.table.now at-start.args.i at-start.requires.2 in
    let small = l.columns_of-columns.ensures.1 in
    (omega arith, omega arith, rw l.columns_of-columns.ensures.0 s.0, rw c.rows_of-rows.ensures.0 s.1)

returns : tie.Need-returns
returns c =
    let at-start : tie.Start = search in
    let l : tie.After-columns_of-columns = search in
    let w : tie.After-rows_of-rows = search in
    rw (l.columns_of-columns.ensures.0, w.rows_of-rows.ensures.0, at-start.requires.3) at c.box_tight.ensures

pub stored_box_tight_spec : {M : Type 1} → statement M
stored_box_tight_spec = tie.close (tie.spec
    (search rules) (search rules) box_tight-requires returns)
