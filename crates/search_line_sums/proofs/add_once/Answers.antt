-- `search_line_sums::add_once` meets its contract: one sum more has its part with each turn, and at the end all have it. Assumes nothing.
use Rattle.list_laws.proofs.Kit.{◌+◌, arith}
use Rattle.search_line_sums.proofs.Scans.{raise_begin, raise_step, raise_end}
use Rattle.search_line_sums.proofs.add_once.Goals as goal

pub loop-k-init : goal.loop-k-init
loop-k-init c = raise_begin _ _ _ _

pub overflow_add-sums-in-loop-k : goal.overflow_add-sums-in-loop-k
overflow_add-sums-in-loop-k c =
    let at = c.args.low + c.loop-k.k in
    omega (arith, c.type_inv.line c.loop-k.k, c.loop-k.invariant.rest at (omega arith), c.requires.fact_2 at)

pub loop-k-preserved : goal.loop-k-preserved
loop-k-preserved c =
    let same = c.loop-k.invariant.same in
    raise_step 1 c.args.low c.args.line.now c.args.sums.now c.loop-k.sums c.loop-k.k _ (omega arith) (omega arith) c.loop-k.invariant

pub returns : goal.returns
returns c = raise_end 1 c.args.low c.args.line.now c.args.sums.now c.loop-k.sums c.loop-k.k (omega arith) c.loop-k.invariant
