-- `search_table::fill_table`: one piece more is in the table, and at last all of them. Assumes nothing.
use Rattle.list_laws.proofs.Kit.{◌≡◌, subst, arith}
use Rattle.model.specs.Lent.{lent_by, job_of}
use Rattle.model.specs.Buffer.{layout_of}
use Rattle.search_laws.specs.Table.{PenaltyTable}
use Rattle.search_table.proofs.fill_table.Goals as goal

pub loop-i-preserved : goal.loop-i-preserved
loop-i-preserved c =
    let e = c.add_piece.ensures in
    record { rows = e.rows; columns = e.columns; made = λ size g. e.table size g (c.loop-i.invariant.made size g) }

pub returns : goal.returns
returns c size g whole =
    let a = c.args in
    let o = c.loop-i in
    let done : o.i ≡ size.count = omega (arith, whole) in
    subst (λ n. PenaltyTable (job_of (lent_by size a.table.now a.pixels.now)) (layout_of a.layout.now) n o.penalties) done (o.invariant.made size g)
