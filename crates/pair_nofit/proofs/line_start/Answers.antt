-- `pair_nofit::line_start`: lines are in order, so from the one that does not lie in an earlier line on none does. Assumes nothing.
use Rattle.list_laws.proofs.Kit.{arith}
use Rattle.pair_nofit.proofs.Kept.{line_order}
use Rattle.pair_nofit.proofs.line_start.Goals as goal

pub returns-then-line-q : goal.returns-then-line-q
returns-then-line-q c =
    record {
      low = omega arith;
      within = omega arith;
      before = c.loop-j.invariant;
      from = λ l a b. omega (arith, c.if-line-q.true, c.placed_at-q.ensures.line, line_order c.args.s.now c.requires.fact_1 c.loop-j.j l a b);
    }
