-- `search_levels::or_within`: as `search_words::or_row`, since the row that is read lies before the one that is written. Assumes nothing.
use Rattle.list_laws.proofs.Kit.{arith}
use Rattle.search_words.proofs.Moved.{move_start, move_end}
use Rattle.search_levels.proofs.Within.{within_step}
use Rattle.search_levels.proofs.or_within.Goals as goal

pub loop-j-init : goal.loop-j-init
loop-j-init c = move_start _ _ _ _ _ _

pub loop-j-preserved : goal.loop-j-preserved
loop-j-preserved c =
    let a = c.args in
    let o = c.loop-j in
    within_step a.ws.now a.at a.start a.blocks a.s o.ws o.low o.j c.loop-j-test.true (omega arith) (omega arith) (omega arith) o.invariant

pub returns : goal.returns
returns c =
    let a = c.args in
    let o = c.loop-j in
    move_end a.ws.now a.at a.ws.now a.start a.blocks a.s o.ws o.low o.j c.loop-j-test.false o.invariant
