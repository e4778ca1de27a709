-- `pair_nofit::word_bits`: the bits that neither shift leaves out. Assumes nothing.
use Rattle.list_laws.proofs.Kit.{arith}
use Rattle.pair_nofit.proofs.Words.{word_from}
use Rattle.pair_nofit.proofs.word_bits.Goals as goal

pub returns : goal.returns
returns c = let a = c.args in word_from a.low a.high a.start _ _ (omega arith) (omega arith) c.max.ensures c.min.ensures
