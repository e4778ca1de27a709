-- `pair_measure::few_strips`: the test is the room that two pieces need. Assumes nothing.
use Rattle.list_laws.proofs.Kit.{◌*◌, ◌+◌, ◌≤◌, arith, rules, leb-true}
use Rattle.pair_measure.proofs.few_strips.Statement.{statement}
use Rattle.pair_measure.proofs.few_strips.Tie as tie

returns : tie.Need-returns
returns c = λ e.
    let first : tie.After-area_of = search in
    let second : tie.After-area_of-2 = search in
    let a = first.area_of.ensures.0 in
    let b = second.area_of-2.ensures.0 in
    let room : first.area_of.result + second.area_of-2.result + 510 ≤ 2 * 4096 = leb-true _ _ e in omega arith

pub few_strips_spec : {M : Type 1} → statement M
few_strips_spec = tie.close (tie.spec
    (search rules) (search rules) (search rules) (search rules) (search rules) returns)
