-- `strip_scan::compare::compare_strips`: the strip that was found is the first of those left, and decides it where the store has another.
-- Assumes nothing.
use Rattle.list_laws.proofs.Kit.{sym, ◌^◌, ◌≤◌, arith}
use Rattle.strip_scan.proofs.Comparing.{compare_start, compare_step, compare_unlike, compare_end}
use Rattle.strip_scan.proofs.Counts.{piece_few}
use Rattle.strip_scan.proofs.Scanning.{all_strips, side_of_lem}
use Rattle.strip_scan.proofs.compare.compare_strips.Goals as goal

pub loop-found-init : goal.loop-found-init
loop-found-init c = record { within = omega arith; left = compare_start _ _ (all_strips _ _) }

pub returns-then-not-stands_at : goal.returns-then-not-stands_at
returns-then-not-stands_at c = compare_unlike c.in-Some.ensures.next (sym c.if-not-stands_at.ensures) c.loop-found.invariant.left

pub overflow_add-at : goal.overflow_add-at
overflow_add-at c =
    let a = c.args in
    let k = piece_few a.direction a.pixels.now a.piece c.requires.0 in
    let n = c.loop-found.invariant.left.counted in
    let z : a.at ≤ 2 ^ 32 = c.requires.1 in
    omega arith

pub loop-found-preserved : goal.loop-found-preserved
loop-found-preserved c =
    let w = c.in-Some.ensures.within in
    let u = side_of_lem c.args.direction c.args.pixels.now c.args.piece in
    record {
      within = omega arith;
      left = compare_step c.in-Some.ensures.next (sym c.if-not-stands_at.ensures) c.loop-found.invariant.left;
    }

pub returns : goal.returns
returns c = compare_end c.in_default.ensures c.loop-found.invariant.left
