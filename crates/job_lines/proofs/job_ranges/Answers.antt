-- `job_lines::job_ranges` makes the tests of `job_line_causes` in their order. Assumes nothing.
use Rattle.list_laws.proofs.Kit.{sym, ◌∙◌, ◌≡◌, true, arith, le-ltb, lt-ltb}
use Rattle.model.specs.Refusal.{unless}
use Rattle.model.specs.Lent.{numbers_in_range}
use Rattle.job_limits.proofs.Ranges.{few_count}
use Rattle.job_lines.proofs.job_ranges.Goals as goal

pub returns-then-wrong : goal.returns-then-wrong
unfolding unless
returns-then-wrong c = (rw c.refusal.ensures (simp (sym c.numbers_in_range-wrong.ensures ∙ c.if-wrong.true, unless)), omega arith)

pub returns-then-size-gt-AREA_BOUND : goal.returns-then-size-gt-AREA_BOUND
unfolding unless
returns-then-size-gt-AREA_BOUND c =
    let ranges : numbers_in_range c.args.j.size ≡ true = sym c.numbers_in_range-wrong.ensures ∙ c.if-wrong.false in
    (rw c.refusal-then-size-gt-AREA_BOUND.ensures (simp (ranges, lt-ltb _ _ c.if-size-gt-AREA_BOUND.true, unless)), omega arith)

pub returns : goal.returns
unfolding unless
returns c =
    let ranges : numbers_in_range c.args.j.size ≡ true = sym c.numbers_in_range-wrong.ensures ∙ c.if-wrong.false in
    (simp (ranges, le-ltb _ _ c.if-size-gt-AREA_BOUND.false, unless), few_count c.args.j.size ranges)
