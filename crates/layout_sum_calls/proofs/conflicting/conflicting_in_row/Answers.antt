-- `layout_sum_calls::conflicting::conflicting_in_row`: a pair that conflicts is the row's first, one that does not is passed. Assumes nothing.
use Rattle.list_laws.proofs.Kit.{◌∙◌, ◌≡◌, sym, arith, length}
use Rattle.layout_sum_calls.proofs.FirstPair.{row_begin, row_first, row_next, row_none}
use Rattle.layout_sum_calls.proofs.conflicting.conflicting_in_row.Goals as goal

pub loop-k-init : goal.loop-k-init
loop-k-init c = (λ size g. row_begin _ _ _, c.requires.fact_3)

pub returns-then-conflicts_of : goal.returns-then-conflicts_of
returns-then-conflicts_of c =
    record {
      first = λ size g. row_first _ _ _ _ c.loop-k-test.true (sym (c.conflicts_of.ensures.conflicts size g) ∙ c.if-conflicts_of.true) (c.loop-k.invariant.0 size g);
      kept = c.conflicts_of.ensures.kept;
    }

pub loop-k-preserved : goal.loop-k-preserved
loop-k-preserved c = (
  λ size g. row_next _ _ _ _ c.loop-k-test.true (sym (c.conflicts_of.ensures.conflicts size g) ∙ c.if-conflicts_of.false) (c.loop-k.invariant.0 size g),
  c.conflicts_of.ensures.kept,
)

pub returns : goal.returns
returns c =
    let all : c.loop-k.k ≡ length c.args.layout.now = omega arith in
    record { first = λ size g. row_none _ _ _ _ (omega arith) (rw all at (c.loop-k.invariant.0 size g)); kept = c.loop-k.invariant.1 }
