-- `job_limits::numbers_in_range` makes the tests of its definition in their order. Assumes nothing.
use Rattle.list_laws.proofs.Kit.{◌∙◌, sym, rules}
use Rattle.list_laws.proofs.Tests.{said_no, said_yes}
use Rattle.job_limits.proofs.numbers_in_range.Statement.{statement}
use Rattle.job_limits.proofs.numbers_in_range.Tie as tie

returns-then-not-up_to : tie.Need-returns-then-not-up_to
returns-then-not-up_to c = simp (sym c.before.up_to.ensures ∙ c.if-not-up_to.true)

returns-then-not-up_to-2 : tie.Need-returns-then-not-up_to-2
returns-then-not-up_to-2 c =
    let at-up-to : tie.After-up_to = search in
    simp (sym at-up-to.up_to.ensures ∙ c.before.before.if-not-up_to.false, sym c.before.up_to-2.ensures ∙ c.if-not-up_to-2.true)

returns-then-not-up_to-3 : tie.Need-returns-then-not-up_to-3
returns-then-not-up_to-3 c =
    let at-else1 : tie.Else-not-up_to = search in
    let at-up-to : tie.After-up_to = search in
    let at-else2 : tie.Else-not-up_to-2 = search in
    let at-up-to2 : tie.After-up_to-2 = search in
    simp (
      sym at-up-to.up_to.ensures ∙ at-else1.if-not-up_to.false,
      sym at-up-to2.up_to-2.ensures ∙ at-else2.if-not-up_to-2.false,
      sym c.before.up_to-3.ensures ∙ c.if-not-up_to-3.true,
    )

returns : tie.Need-returns
returns c =
    let at-else1 : tie.Else-not-up_to = search in
    let at-up-to : tie.After-up_to = search in
    let at-else2 : tie.Else-not-up_to-2 = search in
    let at-up-to2 : tie.After-up_to-2 = search in
    simp (
      sym at-up-to.up_to.ensures ∙ at-else1.if-not-up_to.false,
      sym at-up-to2.up_to-2.ensures ∙ at-else2.if-not-up_to-2.false,
      sym c.before.before.up_to-3.ensures ∙ c.before.if-not-up_to-3.false,
    )

pub numbers_in_range_spec : {M : Type 1} → statement M
numbers_in_range_spec = tie.close (tie.spec
    (search rules) returns-then-not-up_to (search rules) returns-then-not-up_to-2 (search rules) returns-then-not-up_to-3 returns)
