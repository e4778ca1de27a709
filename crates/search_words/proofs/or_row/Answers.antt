-- `search_words::or_row`: before the first word nothing is moved, and each turn moves one more. Assumes nothing.
use Rattle.list_laws.proofs.Kit.{arith, ◌+◌, ◌-◌, ◌/◌}
use Rattle.search_words.proofs.Moved.{move_start, move_step, move_end}
use Rattle.search_words.proofs.or_row.Goals as goal

pub loop-j-init : goal.loop-j-init
loop-j-init c = move_start _ _ _ _ _ _

pub loop-j-preserved : goal.loop-j-preserved
loop-j-preserved c =
    let a = c.args in
    let o = c.loop-j in
    move_step a.to.now a.at a.from.now a.start a.blocks a.s o.to o.low o.j c.loop-j-test.true (omega arith)
    (omega (arith, c.type_inv.from (a.start + (o.j - a.s / 64)))) o.invariant

pub returns : goal.returns
returns c =
    let a = c.args in
    let o = c.loop-j in
    move_end a.to.now a.at a.from.now a.start a.blocks a.s o.to o.low o.j c.loop-j-test.false o.invariant
