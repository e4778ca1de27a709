-- `search_shapes::shape_strips` meets its contract: two neighbouring starts bound the part, which is the shape's strips. Assumes nothing.
use Rattle.list_laws.proofs.Kit.{◌+◌, arith, rules}
use Rattle.search_shapes.specs.Shapes.{Held}
use Rattle.search_shapes.proofs.Making.{strips_of_lem}
use Rattle.search_shapes.proofs.shape_strips.Statement.{statement}
use Rattle.search_shapes.proofs.shape_strips.Tie as tie

shape_number-number-requires : tie.Need-shape_number-number-requires
shape_number-number-requires c κs = let h = c.before.requires.started in omega arith

overflow_cast-from : tie.Need-overflow_cast-from
overflow_cast-from c = omega (arith, c.shared_slice_known-2-1.given c.before.shape_number-number.result)

overflow_cast-to : tie.Need-overflow_cast-to
overflow_cast-to c = omega (arith, c.shared_slice_known-3-1.given (c.before.before.shape_number-number.result + 1))

-- the starts bound a part of the store
bounds : (c : tie.After-shared_slice_known-3-1)
    →
    let at-start : tie.Start = search in
    Held at-start.args.store.now at-start.args.starts.now
    c.before.before.shape_number-number.result
bounds c =
    let at-start : tie.Start = search in
    rw c.before.before.shape_number-number.ensures.0 at-start.requires

offset_bounds-store-from : tie.Need-offset_bounds-store-from
offset_bounds-store-from c = let h = bounds c in omega arith

slice_bounds-result-count : tie.Need-slice_bounds-result-count
slice_bounds-result-count c = (bounds c).rising

slice_bounds-result-start : tie.Need-slice_bounds-result-start
slice_bounds-result-start c = (bounds c).rising

slice_bounds-result-end : tie.Need-slice_bounds-result-end
slice_bounds-result-end c = (bounds c).within

returns : tie.Need-returns
returns c = λ d j shapes there.
    let at-shape-number : tie.After-shape_number-number = search in
    let at-start : tie.Start = search in
    let a = at-start.args in
    rw at-shape-number.shape_number-number.ensures.0 (strips_of_lem d _ a.store.now a.starts.now _ (shapes.at a.piece a.turn there))

pub shape_strips_spec : {M : Type 1} → statement M
shape_strips_spec =
    tie.close (tie.spec
    shape_number-number-requires (search rules) (search rules) overflow_cast-from (search rules) (search rules) (search rules) overflow_cast-to
    offset_bounds-store-from slice_bounds-result-count slice_bounds-result-start slice_bounds-result-end returns)
