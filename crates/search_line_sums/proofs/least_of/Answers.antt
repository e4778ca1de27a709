-- `search_line_sums::least_of` meets its contract: a sum that is lower takes the place of the least, and the least is the search's answer.
use Rattle.list_laws.proofs.Kit.{arith}
use Rattle.search_line_sums.proofs.Scans.{scan_begin, scan_lower, scan_keep, scan_found, scan_none}
use Rattle.search_line_sums.proofs.least_of.Goals as goal
use Rattle.search_line_sums.proofs.least_of.Goals.{then-sum-low, else-sum-low}

pub loop-a-init : goal.loop-a-init
loop-a-init c = scan_begin _ _

pub loop-a-preserved : goal.loop-a-preserved
loop-a-preserved c =
    let a = c.args in
    let p = c.loop-a in
    elim c.if-sum-low.branch [
      | then-sum-low w ↦ rw (w.low-is, w.at-is) (scan_lower a.sums.now a.bound p.low p.at p.a p.invariant w.if-sum-low.true)
      | else-sum-low w ↦ rw (w.low-is, w.at-is) (scan_keep a.sums.now a.bound p.low p.at p.a p.invariant w.if-sum-low.false)
    ]

pub returns-then-low-bound : goal.returns-then-low-bound
returns-then-low-bound c =
    let p = c.loop-a in scan_found c.args.sums.now c.args.bound p.low p.at p.a p.invariant (omega arith) c.if-low-bound.true

pub returns : goal.returns
returns c = let p = c.loop-a in scan_none c.args.sums.now c.args.bound p.low p.at p.a p.invariant (omega arith) c.if-low-bound.false
