-- `job_limits::sides_in_range` makes the tests of its definition in their order. Assumes nothing.
use Rattle.list_laws.proofs.Kit.{◌∙◌, sym, rules, eq-eqb, ne_eqb}
use Rattle.list_laws.proofs.Tests.{said_no, said_yes}
use Rattle.job_limits.proofs.sides_in_range.Statement.{statement}
use Rattle.job_limits.proofs.sides_in_range.Tie as tie

returns-then-not-up_to : tie.Need-returns-then-not-up_to
returns-then-not-up_to c = simp (sym c.before.up_to.ensures ∙ c.if-not-up_to.true)

returns-then-not-up_to-2 : tie.Need-returns-then-not-up_to-2
returns-then-not-up_to-2 c =
    let at-up-to : tie.After-up_to = search in
    simp (sym at-up-to.up_to.ensures ∙ c.before.before.if-not-up_to.false, sym c.before.up_to-2.ensures ∙ c.if-not-up_to-2.true)

returns-then-turns-ne1 : tie.Need-returns-then-turns-ne1
returns-then-turns-ne1 c =
    let at-else1 : tie.Else-not-up_to = search in
    let at-up-to : tie.After-up_to = search in
    simp (
      sym at-up-to.up_to.ensures ∙ at-else1.if-not-up_to.false,
      sym c.before.before.up_to-2.ensures ∙ c.before.if-not-up_to-2.false,
      ne_eqb _ _ c.if-turns-ne1.true,
    )

returns : tie.Need-returns
returns c =
    let at-else1 : tie.Else-not-up_to = search in
    let at-up-to : tie.After-up_to = search in
    simp (
      sym at-up-to.up_to.ensures ∙ at-else1.if-not-up_to.false,
      sym c.before.before.up_to-2.ensures ∙ c.before.if-not-up_to-2.false,
      eq-eqb _ _ c.if-turns-ne1.false,
    )

pub sides_in_range_spec : {M : Type 1} → statement M
sides_in_range_spec = tie.close (tie.spec
    (search rules) returns-then-not-up_to (search rules) returns-then-not-up_to-2 returns-then-turns-ne1 returns)
