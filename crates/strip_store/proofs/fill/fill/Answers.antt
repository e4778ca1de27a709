-- `strip_store::fill::fill`: a piece's start and strips are stored, and no store is larger than the boxes. Assumes nothing.
use Rattle.list_laws.proofs.Kit.{arith}
use Rattle.model.specs.Lent.{lent_by, job_of}
use Rattle.job_laws.proofs.Checked.{facts, entry_at}
use Rattle.strip_store.proofs.Filling.{fill_start, fill_step, fill_end, store_small, appended_piece}
use Rattle.strip_store.proofs.fill.fill.Goals as goal

pub loop-i-init : goal.loop-i-init
unfolding job_of
loop-i-init c =
    let a = c.args in fill_start a.direction (job_of (lent_by a.size a.table.now a.pixels.now)) a.turns.now a.strips.now a.starts.now

pub put_start-requires : goal.put_start-requires
put_start-requires c =
    let a = c.args in
    let s = store_small a.direction (lent_by a.size a.table.now a.pixels.now) a.turns.now c.requires.well in
    let n = c.loop-i.invariant.counted in
    omega arith

pub pixel_start-start-requires : goal.pixel_start-start-requires
pixel_start-start-requires c =
    let a = c.args in
    let f = facts (lent_by a.size a.table.now a.pixels.now) c.requires.well in
    let n = f.entries in
    let m = f.few_pieces in
    (omega arith, omega arith)

pub put_piece-at-requires : goal.put_piece-at-requires
put_piece-at-requires c =
    let a = c.args in
    let l = lent_by a.size a.table.now a.pixels.now in
    let s = store_small a.direction l a.turns.now c.requires.well in
    let n = c.loop-i.invariant.counted in
    (rw c.pixel_start-start.ensures (entry_at l c.loop-i.i c.requires.well c.loop-i-test.true), omega arith)

pub loop-i-preserved : goal.loop-i-preserved
loop-i-preserved c =
    let a = c.args in
    rw c.put_start.ensures
    (fill_step a.size.count c.loop-i-test.true
    (appended_piece a.direction (job_of (lent_by a.size a.table.now a.pixels.now)) a.turns.now c.loop-i.i c.turn_or_zero-turn.ensures
    (c.put_piece-at.ensures a.size))
    c.loop-i.invariant)

pub put_start-requires-2 : goal.put_start-requires-2
put_start-requires-2 c =
    let a = c.args in
    let s = store_small a.direction (lent_by a.size a.table.now a.pixels.now) a.turns.now c.requires.well in
    let n = c.loop-i.invariant.counted in
    omega arith

pub returns : goal.returns
returns c = rw c.put_start-2.ensures (fill_end c.args.size.count (omega arith) c.loop-i.invariant)
