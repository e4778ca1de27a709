-- `layout_strips::strips_of` meets its contract: the span bounds a part of the store. Assumes nothing.
use Rattle.list_laws.proofs.Kit.{arith, rules}
use Rattle.layout_strips.proofs.strips_of.Statement.{statement}
use Rattle.layout_strips.proofs.strips_of.Tie as tie

offset_bounds-store-from : tie.Need-offset_bounds-store-from
offset_bounds-store-from c = let s : tie.Start = search in let b = s.requires.1 in omega (arith, b.0, b.1)

slice_bounds-result-count : tie.Need-slice_bounds-result-count
slice_bounds-result-count c = let s : tie.Start = search in s.requires.1.0

slice_bounds-result-start : tie.Need-slice_bounds-result-start
slice_bounds-result-start c = let s : tie.Start = search in s.requires.1.0

slice_bounds-result-end : tie.Need-slice_bounds-result-end
slice_bounds-result-end c = let s : tie.Start = search in s.requires.1.1

pub strips_of_spec : {M : Type 1} → statement M
strips_of_spec =
    tie.close (tie.spec
    (search rules) (search rules) (search rules) (search rules) (search rules) (search rules) offset_bounds-store-from slice_bounds-result-count
    slice_bounds-result-start slice_bounds-result-end (search rules))
