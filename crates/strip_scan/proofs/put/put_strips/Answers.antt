-- `strip_scan::put::put_strips`: at first all strips are left, and no piece has so many that the next place would not fit. Assumes nothing.
use Rattle.list_laws.proofs.Kit.{◌^◌, ◌≤◌, arith}
use Rattle.strip_scan.proofs.Appending.{append_start}
use Rattle.strip_scan.proofs.Counts.{piece_few}
use Rattle.strip_scan.proofs.Scanning.{all_strips}
use Rattle.strip_scan.proofs.put.put_strips.Goals as goal

pub loop-found-init : goal.loop-found-init
loop-found-init c = record { within = omega arith; left = append_start _ _ (all_strips _ _) }

pub overflow_add-at : goal.overflow_add-at
overflow_add-at c =
    let a = c.args in
    let k = piece_few a.direction a.pixels.now a.piece c.requires.0 in
    let n = c.loop-found.invariant.left.counted in
    let z : a.at ≤ 2 ^ 32 = c.requires.1 in
    omega arith
