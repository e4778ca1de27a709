-- `strip_store::compare::same_store`: what is left is the piece's start, its strips and what comes behind. Assumes nothing.
use Rattle.list_laws.proofs.Kit.{◌∙◌, sym, arith}
use Rattle.model.specs.Lent.{lent_by, job_of}
use Rattle.job_laws.proofs.Checked.{facts, entry_at}
use Rattle.strip_store.proofs.Filling.{store_small}
use Rattle.strip_store.proofs.Checking.{check_start, check_start_wrong, check_unlike, check_step, check_end, some_from, none_from, stretch_compared}
use Rattle.strip_store.proofs.compare.same_store.Goals as goal

pub loop-i-init : goal.loop-i-init
unfolding job_of
loop-i-init c =
    let a = c.args in check_start a.direction (job_of (lent_by a.size a.table.now a.pixels.now)) a.turns.now a.strips.now a.starts.now

pub returns-then-not-starts_at : goal.returns-then-not-starts_at
returns-then-not-starts_at c =
    check_start_wrong c.args.size.count c.loop-i-test.true (sym c.starts_at.ensures ∙ c.if-not-starts_at.true) c.loop-i.invariant

pub pixel_start-start-requires : goal.pixel_start-start-requires
pixel_start-start-requires c =
    let a = c.args in
    let f = facts (lent_by a.size a.table.now a.pixels.now) c.requires.well in
    let n = f.entries in
    let m = f.few_pieces in
    (omega arith, omega arith)

pub compare_piece-requires : goal.compare_piece-requires
compare_piece-requires c =
    let a = c.args in
    let l = lent_by a.size a.table.now a.pixels.now in
    let s = store_small a.direction l a.turns.now c.requires.well in
    let n = c.loop-i.invariant.counted in
    (rw c.pixel_start-start.ensures (entry_at l c.loop-i.i c.requires.well c.loop-i-test.true), omega arith)

pub returns-in_default : goal.returns-in_default
returns-in_default c =
    let a = c.args in
    check_unlike a.size.count c.loop-i-test.true (sym c.starts_at.ensures ∙ c.if-not-starts_at.false)
    (none_from _ _ _
    (stretch_compared a.direction (job_of (lent_by a.size a.table.now a.pixels.now)) a.turns.now c.loop-i.i c.loop-i.at a.strips.now
    c.turn_or_zero-turn.ensures (c.in_default.ensures a.size)))
    c.loop-i.invariant

pub loop-i-preserved : goal.loop-i-preserved
loop-i-preserved c =
    let a = c.args in
    let u = some_from _ _ _ _
    (stretch_compared a.direction (job_of (lent_by a.size a.table.now a.pixels.now)) a.turns.now c.loop-i.i c.loop-i.at a.strips.now
    c.turn_or_zero-turn.ensures (c.in-Some.ensures a.size)) in
    check_step a.size.count c.loop-i-test.true (sym c.starts_at.ensures ∙ c.if-not-starts_at.false) u.0 u.1 c.loop-i.invariant

pub returns : goal.returns
returns c = c.starts_at-2.ensures ∙ check_end c.args.size.count (omega arith) c.loop-i.invariant
