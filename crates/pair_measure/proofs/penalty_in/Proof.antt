-- `pair_measure::penalty_in`: a depth is at most 263, so the first bound cuts nothing off, and where the first depth is 0 so is the
-- lesser one. Assumes nothing.
use Rattle.list_laws.proofs.Kit.{arith, rules}
use Rattle.pair_measure.proofs.Stores.{any_size}
use Rattle.pair_measure.proofs.Amounts.{lesser_penalty, depth_cut_low}
use Rattle.pair_measure.proofs.penalty_in.Statement.{statement}
use Rattle.pair_measure.proofs.penalty_in.Tie as tie

returns-then-along_rows-eq0 : tie.Need-returns-then-along_rows-eq0
returns-then-along_rows-eq0 c = λ size.
    let at-start : tie.Start = search in
    let s = at-start.args in
    let r = at-start.requires in
    let few = r.1.1.0 in
    lesser_penalty s.gap few size s.table.now s.pixels.now s.i s.p r.0 s.k s.q r.1.0 _ _
    (c.before.before.depth_in-along_rows.ensures size) (omega (arith, c.if-along_rows-eq0.true))

depth_in-requires : tie.Need-depth_in-requires
depth_in-requires c κs =
    let at-depth-in : tie.After-depth_in-along_rows = search in
    let at-start : tie.Start = search in
    let r = at-start.requires in
    let room = r.1.1.1 in
    let few = r.1.1.0 in
    let kept = at-depth-in.depth_in-along_rows.auto.store in
    (r.0, (r.1.0, ((few, depth_cut_low _ _ (at-depth-in.depth_in-along_rows.ensures any_size)), omega arith)))

returns : tie.Need-returns
returns c = λ size.
    let at-depth-in : tie.After-depth_in-along_rows = search in
    let at-start : tie.Start = search in
    let s = at-start.args in
    let r = at-start.requires in
    let few = r.1.1.0 in
    lesser_penalty s.gap few size s.table.now s.pixels.now s.i s.p r.0 s.k s.q r.1.0 _ _ (at-depth-in.depth_in-along_rows.ensures size)
    (c.before.depth_in.ensures size)

pub penalty_in_spec : {M : Type 1} → statement M
penalty_in_spec = tie.close (tie.spec
    (search rules) (search rules) returns-then-along_rows-eq0 depth_in-requires (search rules) returns)
