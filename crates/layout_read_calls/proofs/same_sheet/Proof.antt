-- `layout_read_calls::same_sheet` meets its contract by its tests. Assumes nothing.
use Rattle.list_laws.proofs.Kit.{eq-eqb, ne_eqb}
use Rattle.layout_read_calls.proofs.same_sheet.Statement.{statement}
use Rattle.layout_read_calls.proofs.same_sheet.Tie as tie

returns-then-rows-size : tie.Need-returns-then-rows-size
returns-then-rows-size c = rw (ne_eqb _ _ c.if-rows-size.true)

returns-then-columns-size : tie.Need-returns-then-columns-size
returns-then-columns-size c = rw (eq-eqb _ _ c.before.before.if-rows-size.false, ne_eqb _ _ c.if-columns-size.true)

returns : tie.Need-returns
returns c =
    let at-else1 : tie.Else-rows-size = search in
    rw (eq-eqb _ _ at-else1.if-rows-size.false, eq-eqb _ _ c.before.if-columns-size.false)

pub same_sheet_spec : {M : Type 1} → statement M
same_sheet_spec = tie.close (tie.spec
    returns-then-rows-size returns-then-columns-size returns)
