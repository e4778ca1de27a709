-- `sheet_counts::move_row`: at first all columns are left, and a column's count is moved once. Assumes nothing.
use Rattle.list_laws.proofs.Kit.{◌∙◌, sym, sub-zero}
use Rattle.sheet_counts.specs.Stamp.{on_at}
use Rattle.sheet_counts.proofs.Runs.{run_step, run_end}
use Rattle.sheet_counts.proofs.move_row.Goals as goal

pub loop-x-init : goal.loop-x-init
loop-x-init c = rw sub-zero

pub loop-x-preserved : goal.loop-x-preserved
loop-x-preserved c =
    let a = c.args in
    let now = c.loop-x in
    rw (c.moved_count.ensures, c.stored_pixel-on.ensures)
    (sym (run_step a.change (on_at a.pixels.now a.piece a.y) a.from now.counts now.x a.width c.loop-x-test.true) ∙ now.invariant)

pub returns : goal.returns
returns c =
    let a = c.args in
    let now = c.loop-x in
    sym (run_end a.change (on_at a.pixels.now a.piece a.y) a.from now.counts now.x a.width c.loop-x-test.false) ∙ now.invariant
