-- `search_beside::near_pieces` meets its contract: the word of no piece tells of none, and each turn tells of one piece more. Assumes nothing.
use Rattle.list_laws.proofs.Kit.{arith}
use Rattle.model.specs.Lent.{lent_by, job_of}
use Rattle.model.specs.Buffer.{layout_of}
use Rattle.search_beside.proofs.Near.{near_none, near_more}
use Rattle.search_beside.proofs.near_pieces.Goals as goal

pub loop-k-init : goal.loop-k-init
loop-k-init c = λ pixels on. near_none _ _ _

pub loop-k-preserved : goal.loop-k-preserved
loop-k-preserved c = λ pixels on.
    let a = c.args in
    let bit = c.near_bit.ensures in
    near_more (job_of (lent_by a.size a.table.now pixels)) (layout_of a.layout.now) a.mover c.loop-k.k c.loop-k.near c.near_bit.result (omega arith)
    bit.bit (c.loop-k.invariant pixels on) (bit.apart pixels on)
