-- `search_line_sums::add_weighted` meets its contract: one sum more has its part with each turn, and at the end all have it. Assumes nothing.
use Rattle.list_laws.proofs.Kit.{refl, ◌+◌, arith, get_or}
use Rattle.search_line_sums.proofs.Scans.{part_small, raise_begin, raise_step, raise_end}
use Rattle.search_line_sums.proofs.add_weighted.Goals as goal

pub loop-k-init : goal.loop-k-init
loop-k-init c = raise_begin _ _ _ _

pub overflow_add-sums-in-loop-k : goal.overflow_add-sums-in-loop-k
overflow_add-sums-in-loop-k c =
    let at = c.args.low + c.loop-k.k in
    let byte = c.type_inv.line c.loop-k.k in
    let part = part_small c.args.weight (get_or c.args.line.now c.loop-k.k 0) (omega arith) (omega arith) in
    omega (arith, c.loop-k.invariant.rest at (omega arith), c.requires.fact_3 at)

pub loop-k-preserved : goal.loop-k-preserved
loop-k-preserved c =
    let same = c.loop-k.invariant.same in
    raise_step c.args.weight c.args.low c.args.line.now c.args.sums.now c.loop-k.sums c.loop-k.k _ refl (omega arith) c.loop-k.invariant

pub returns : goal.returns
returns c = raise_end c.args.weight c.args.low c.args.line.now c.args.sums.now c.loop-k.sums c.loop-k.k (omega arith) c.loop-k.invariant
