-- `pair_nofit::mark_interval`: one more word. Assumes nothing.
use Rattle.list_laws.proofs.Kit.{refl, arith}
use Rattle.pair_nofit.proofs.Words.{marking_step}
use Rattle.pair_nofit.proofs.mark_interval.Goals as goal

pub loop-j-preserved : goal.loop-j-preserved
loop-j-preserved c =
    marking_step c.args.low c.args.high c.args.marks.now c.loop-j.marks _ c.loop-j.j _ (omega arith) c.word_bits.ensures refl c.loop-j.invariant
