-- `cut_scan::put_lines`: at first all lines are left, and each is stored once. Assumes nothing.
use Rattle.list_laws.proofs.Kit.{subst, List, ◌+◌, ◌-◌, suc, arith}
use Rattle.model.specs.Strip.{Strip, strips_from, strips}
use Rattle.cut_scan.specs.Scan.{grid_units, row_from, Left}
use Rattle.cut_scan.proofs.Storing.{left_start, left_append, left_end_lem}
use Rattle.cut_scan.proofs.Rows.{lines_step, lines_end, lines_all}
use Rattle.cut_scan.proofs.put_lines.Goals as goal

pub loop-line-init : goal.loop-line-init
loop-line-init c =
    let a = c.args in
    let all = strips a.direction (grid_units a.direction a.owners.now a.grid) in
    record {
      few = omega arith;
      left = subst (λ (rest : List Strip). Left a.direction a.lines.now a.at rest a.lines.now a.at all) (lines_all a.direction a.owners.now a.grid)
          (left_start _ _ _ _);
    }

pub put_row-next-requires : goal.put_row-next-requires
put_row-next-requires c =
    let i = c.loop-line.invariant.few in
    let l = c.loop-line-test.true in
    let p = c.requires in
    let g = p.0.lines in
    (p.0, omega arith, omega arith)

pub loop-line-preserved : goal.loop-line-preserved
loop-line-preserved c =
    let a = c.args in
    let now = c.loop-line in
    let l = c.loop-line-test.true in
    let i = now.invariant.few in
    let next = c.put_row-next.ensures.next in
    let all = strips a.direction (grid_units a.direction a.owners.now a.grid) in
    record {
      few = omega arith;
      left = left_append (row_from a.owners.now a.grid now.line 0 0)
          (strips_from a.direction (grid_units a.direction a.owners.now a.grid) (now.line + 1) (suc a.grid.lines - (now.line + 1)))
          (subst (λ (rest : List Strip). Left a.direction a.lines.now a.at rest now.lines now.next all)
          (lines_step a.direction a.owners.now a.grid now.line (omega arith)) now.invariant.left)
          c.put_row-next.ensures.stored;
    }

pub returns : goal.returns
returns c =
    let a = c.args in
    let now = c.loop-line in
    let g = c.requires.0.lines in
    let i = now.invariant.few in
    let all = strips a.direction (grid_units a.direction a.owners.now a.grid) in
    record {
      stored = left_end_lem
          (subst (λ (rest : List Strip). Left a.direction a.lines.now a.at rest now.lines now.next all)
          (lines_end a.direction a.owners.now a.grid now.line (omega arith)) now.invariant.left);
      next = omega arith;
    }

-- the last line is stored too
pub returns-2-clause-stored : goal.returns-2-clause-stored
returns-2-clause-stored c =
    let a = c.args in
    let now = c.loop-line in
    let l = c.loop-line-test.true in
    let all = strips a.direction (grid_units a.direction a.owners.now a.grid) in
    left_end_lem
    (subst (λ (rest : List Strip). Left a.direction a.lines.now a.at rest c.put_row-next.new.lines c.put_row-next.result all)
    (lines_end a.direction a.owners.now a.grid (now.line + 1) (omega arith))
    (left_append (row_from a.owners.now a.grid now.line 0 0)
    (strips_from a.direction (grid_units a.direction a.owners.now a.grid) (now.line + 1) (suc a.grid.lines - (now.line + 1)))
    (subst (λ (rest : List Strip). Left a.direction a.lines.now a.at rest now.lines now.next all)
    (lines_step a.direction a.owners.now a.grid now.line (omega arith)) now.invariant.left)
    c.put_row-next.ensures.stored))
