-- `search_maps::grow_marks` meets its contract: a row is narrow, and few are added. Assumes nothing.
use Rattle.list_laws.proofs.Kit.{◌*◌, ◌+◌, ◌≤◌, arith, mul-le-mul, rules}
use Rattle.search_maps.proofs.grow_marks.Statement.{statement}
use Rattle.search_maps.proofs.grow_marks.Tie as tie

grow-requires-2 : tie.Need-grow-requires-2
grow-requires-2 c κs =
    let at-start : tie.Start = search in
    let at-grow : tie.After-grow = search in
    let a = at-start.args in
    let p = at-start.requires in
    let e = at-grow.grow.ensures.same in
    let few : a.extra + 1 ≤ 17 = omega arith in
    let narrow : a.w ≤ 1000 = omega arith in
    let h : (a.extra + 1) * a.w ≤ 17 * 1000 = mul-le-mul few narrow in
    (omega arith, omega arith, omega arith)

returns : tie.Need-returns
returns c =
    let at-grow : tie.After-grow = search in
    let at-grow2 : tie.After-grow-2 = search in
    record { between = _; right = at-grow.grow.ensures; up = at-grow2.grow-2.ensures }

pub grow_marks_spec : {M : Type 1} → statement M
grow_marks_spec = tie.close (tie.spec
    (search rules) (search rules) (search rules) grow-requires-2 (search rules) returns)
