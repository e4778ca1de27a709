-- `cut_scan::put_row`: at first all units are left, and each is passed once. Assumes nothing.
use Rattle.list_laws.proofs.Kit.{◌≡◌, arith}
use Rattle.cut_scan.proofs.Storing.{left_start}
use Rattle.cut_scan.proofs.Rows.{row_stored}
use Rattle.cut_scan.proofs.put_row.Goals as goal

pub loop-a-init : goal.loop-a-init
loop-a-init c = record { run_passed = omega arith; few = omega arith; left = left_start _ _ _ _ }

pub pass_unit-passed-requires : goal.pass_unit-passed-requires
pass_unit-passed-requires c =
    let i = c.loop-a.invariant in
    let l = c.loop-a-test.true in
    (c.requires.0, l, c.requires.1, i.run_passed, omega arith)

pub loop-a-preserved : goal.loop-a-preserved
loop-a-preserved c =
    let i = c.loop-a.invariant in
    let after = c.pass_unit-passed.ensures in
    let next = after.next.0 in
    let run = after.next.1 in
    record { run_passed = omega arith; few = omega arith; left = after.left _ _ _ i.left }

pub close_run-requires : goal.close_run-requires
close_run-requires c =
    let i = c.loop-a.invariant in
    let p = c.requires in
    let g = p.0.length in
    (p.1, g, omega arith, omega arith)

pub returns : goal.returns
returns c =
    let a = c.args in
    let now = c.loop-a in
    let all : now.a ≡ a.grid.length = omega arith in
    let next = c.close_run.ensures.next in
    let i = now.invariant.few in
    let g = c.requires.0.length in
    record {
      stored = row_stored a.owners.now a.grid a.line now.a now.run all now.invariant.left c.close_run.ensures.stored;
      next = omega arith;
    }
