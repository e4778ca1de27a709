-- `search_marks::add_strips`: one strip after the other. Assumes nothing.
use Rattle.search_marks.proofs.Adding.{made_more}
use Rattle.search_marks.proofs.add_strips.Goals as goal

pub loop-i-preserved : goal.loop-i-preserved
loop-i-preserved c =
    made_more c.args.to.now _ c.args.es.now c.args.w c.args.up c.loop-i.i c.loop-i.to _ _ c.span_at-span.ensures c.loop-i.invariant c.add_strip.ensures
