-- `search_lines::map_slot` meets its contract: the pairs are numbered in a triangle. Assumes nothing.
use Rattle.list_laws.proofs.Kit.{◌*◌, ◌+◌, ◌≤◌, arith, mul-le-mul, rules}
use Rattle.search_lines.proofs.map_slot.Statement.{statement}
use Rattle.search_lines.proofs.map_slot.Tie as tie

-- the product is small
small : (e : tie.Start) → let b = e.args.two.standing in b * (b + 1) ≤ 63 * 64
small e =
    let b = e.args.two.standing in
    let h = e.requires.standing in
    let m : b ≤ 63 = omega arith in
    let n : b + 1 ≤ 64 = omega arith in
    mul-le-mul m n

overflow_mul-before : tie.Need-overflow_mul-before
overflow_mul-before c = let e : tie.Start = search in let h = small e in omega arith

overflow_add-before-2 : tie.Need-overflow_add-before-2
overflow_add-before-2 c = let e : tie.Start = search in let h = small e in let m = e.requires.moved in omega arith

shape_number-requires : tie.Need-shape_number-requires
shape_number-requires c κs = let e : tie.Start = search in let h = small e in let m = e.requires.moved in omega arith

returns : tie.Need-returns
returns c =
    let e : tie.Start = search in
    let h = small e in
    let m = e.requires.moved in
    let r = c.shape_number.ensures.1 in
    omega arith

pub map_slot_spec : {M : Type 1} → statement M
map_slot_spec = tie.close (tie.spec
    (search rules) overflow_mul-before overflow_add-before-2 shape_number-requires returns)
