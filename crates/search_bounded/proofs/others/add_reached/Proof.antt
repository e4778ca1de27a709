-- `search_bounded::others::add_reached` meets its contract: the line is read from where the places in reach begin in it. Assumes nothing.
use Rattle.list_laws.proofs.Kit.{arith, length-drop, length-take, rules}
use Rattle.search_bounded.proofs.others.add_reached.Statement.{statement}
use Rattle.search_bounded.proofs.others.add_reached.Tie as tie

overflow_add-from : tie.Need-overflow_add-from
overflow_add-from c = let e : tie.Start = search in let l = e.requires.0 in omega arith

overflow_sub-end : tie.Need-overflow_sub-end
overflow_sub-end c = let e : tie.Start = search in let s = e.requires.1.0.0 in omega arith

overflow_add-end : tie.Need-overflow_add-end
overflow_add-end c = let e : tie.Start = search in let l = e.requires.0 in let s = e.requires.1.0.0 in omega arith

slice_bounds-add_line-end : tie.Need-slice_bounds-add_line-end
slice_bounds-add_line-end c = let e : tie.Start = search in e.requires.0.0

add_line-requires : tie.Need-add_line-requires
add_line-requires c κs =
    let e : tie.Start = search in
    let l = e.requires.0.0 in
    let s = e.requires.1.0 in
    (simp (length-take, length-drop) (omega arith), (e.requires.1.1.0, e.requires.1.1.1))

returns : tie.Need-returns
returns c = let x : tie.After-add_line = search in x.add_line.ensures

pub add_reached_spec : {M : Type 1} → statement M
add_reached_spec =
    tie.close (tie.spec
    overflow_add-from overflow_sub-end overflow_add-end (search rules) (search rules) slice_bounds-add_line-end add_line-requires (search rules)
    returns)
