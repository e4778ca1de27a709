-- `layout_start_calls::stack::piled`: the sides are the entry's, and the length is the larger of two numbers. Assumes nothing.
use Rattle.list_laws.proofs.Kit.{arith}
use Rattle.model.specs.Lent.{job_of}
use Rattle.layout_start_calls.proofs.stack.piled.Goals as goal

pub returns : goal.returns
unfolding job_of
returns c = record {
  same = λ pixels. rw (c.max.ensures, c.rows_of.ensures.0, c.columns_of.ensures.0);
  height = omega arith;
  end = omega arith;
}
