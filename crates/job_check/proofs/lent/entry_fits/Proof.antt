-- `job_check::lent::entry_fits` makes the tests of its definition in their order. Assumes nothing.
use Rattle.list_laws.proofs.Kit.{◌<◌, ◌≤◌, rules, le-leb, lt-leb}
use Rattle.model.specs.Lent.{entry_columns, entry_fits}
use Rattle.job_check.proofs.lent.entry_fits.Statement.{statement}
use Rattle.job_check.proofs.lent.entry_fits.Tie as tie

returns-then-size-columns_of : tie.Need-returns-then-size-columns_of
unfolding entry_fits
returns-then-size-columns_of c =
    let at-start : tie.Start = search in
    let asked : tie.After-columns_of = search in
    let a = at-start.args in
    let long : a.size.columns < entry_columns a.table.now a.i = rw asked.columns_of.ensures.0 at c.if-size-columns_of.true in
    simp (lt-leb _ _ long)

returns : tie.Need-returns
unfolding entry_fits
returns c =
    let at-start : tie.Start = search in
    let a = at-start.args in
    let asked : tie.After-columns_of = search in
    let short : tie.Else-size-columns_of = search in
    let high : tie.After-rows_of = search in
    let fits : entry_columns a.table.now a.i ≤ a.size.columns = rw asked.columns_of.ensures.0 at short.if-size-columns_of.false in
    simp (le-leb _ _ fits, high.rows_of.ensures.0)

pub entry_fits_spec : {M : Type 1} → statement M
entry_fits_spec = tie.close (tie.spec
    (search rules) returns-then-size-columns_of (search rules) returns)
