-- `strip_check::in_order` meets its contract. Assumes nothing.
use Rattle.list_laws.proofs.Kit.{◌∙◌, ap₂, rules, eq-eqb, ne_eqb}
use Rattle.strip_check.proofs.Reading.{read_is}
use Rattle.strip_check.specs.Check.{stands_before, follows}
use Rattle.strip_check.proofs.in_order.Statement.{statement}
use Rattle.strip_check.proofs.in_order.Tie as tie

returns-then-i-eq0 : tie.Need-returns-then-i-eq0
unfolding follows
returns-then-i-eq0 c = simp (eq-eqb _ 0 c.if-i-eq0.true)

returns : tie.Need-returns
unfolding follows
returns c =
    let at-else1 : tie.Else-i-eq0 = search in
    let at-start : tie.Start = search in
    let a = at-start.args in
    c.stands_before.ensures
    ∙ ap₂ stands_before (read_is c.strip_at.ensures) (read_is c.strip_at-2.ensures)
    ∙ simp (ne_eqb a.i 0 at-else1.if-i-eq0.false)

pub in_order_spec : {M : Type 1} → statement M
in_order_spec = tie.close (tie.spec
    returns-then-i-eq0 (search rules) (search rules) (search rules) (search rules) returns)
