-- `layout_start_calls::stack::on_top`: x is the smaller of two numbers, and the side is the entry's. Assumes nothing.
use Rattle.model.specs.Lent.{job_of}
use Rattle.layout_start_calls.proofs.stack.on_top.Goals as goal

pub returns : goal.returns
unfolding job_of
returns c = λ pixels. simp (c.min-x.ensures, c.columns_of.ensures.0)
