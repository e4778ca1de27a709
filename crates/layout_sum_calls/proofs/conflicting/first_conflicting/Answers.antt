-- `layout_sum_calls::conflicting::first_conflicting`: a row's first pair is the layout's where no row before has one. Assumes nothing.
use Rattle.list_laws.proofs.Kit.{◌∙◌, ap, sym, arith}
use Rattle.model.specs.Lent.{lent_by}
use Rattle.layout_sum_calls.specs.Answers.{conflicting_answer}
use Rattle.layout_sum_calls.proofs.FirstPair.{rows_begin, rows_left, rows_done}
use Rattle.layout_sum_calls.proofs.conflicting.first_conflicting.Goals as goal

pub loop-i-init : goal.loop-i-init
loop-i-init c = (λ size g whole. rows_begin (lent_by size c.args.table.now c.args.pixels.now) c.args.layout.now whole, c.requires.fact_2)

pub overflow_cast-result : goal.overflow_cast-result
overflow_cast-result c = let few = c.requires.fact_1.few in omega arith

pub overflow_cast-result-then-k-layout : goal.overflow_cast-result-then-k-layout
overflow_cast-result-then-k-layout c = let few = c.requires.fact_1.few in omega arith

pub returns-then-k-layout : goal.returns-then-k-layout
returns-then-k-layout c = λ size g whole.
    sym
    (ap conflicting_answer
    (c.loop-i.invariant.0 size g whole ∙ rows_left _ _ _ c.loop-i-test.true ∙ (c.conflicting_in_row-k.ensures.first size g).found c.if-k-layout.true _))

pub loop-i-preserved : goal.loop-i-preserved
loop-i-preserved c = (
  λ size g whole.
      c.loop-i.invariant.0 size g whole ∙ rows_left _ _ _ c.loop-i-test.true ∙ (c.conflicting_in_row-k.ensures.first size g).none c.if-k-layout.false _,
  c.conflicting_in_row-k.ensures.kept,
)

pub returns : goal.returns
returns c = λ size g whole. sym (ap conflicting_answer (c.loop-i.invariant.0 size g whole ∙ rows_done _ _ _ c.loop-i-test.false))
