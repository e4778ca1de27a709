-- `job_limits::sheet_in_range` makes the tests of its definition in their order; in range, the product is far below 2^64. Assumes nothing.
use Rattle.list_laws.proofs.Kit.{◌∙◌, sym, arith, rules}
use Rattle.model.specs.Lent.{sheet_in_range}
use Rattle.list_laws.proofs.Tests.{said_no, said_yes}
use Rattle.job_limits.proofs.Ranges.{sheet_small}
use Rattle.job_limits.proofs.sheet_in_range.Statement.{statement}
use Rattle.job_limits.proofs.sheet_in_range.Tie as tie

returns-then-not-numbers_in_range : tie.Need-returns-then-not-numbers_in_range
unfolding sheet_in_range
returns-then-not-numbers_in_range c = simp (sym c.before.numbers_in_range.ensures ∙ c.if-not-numbers_in_range.true)

overflow_mul-result : tie.Need-overflow_mul-result
overflow_mul-result c =
    let at-start : tie.Start = search in
    let m = sheet_small at-start.args.size (sym c.before.before.numbers_in_range.ensures ∙ c.before.if-not-numbers_in_range.false) in
    omega arith

returns : tie.Need-returns
unfolding sheet_in_range
returns c = simp (sym c.before.before.numbers_in_range.ensures ∙ c.before.if-not-numbers_in_range.false)

pub sheet_in_range_spec : {M : Type 1} → statement M
sheet_in_range_spec = tie.close (tie.spec
    (search rules) returns-then-not-numbers_in_range overflow_mul-result returns)
