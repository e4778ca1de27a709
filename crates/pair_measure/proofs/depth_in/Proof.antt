-- `pair_measure::depth_in`: the store holds the first piece's stretch up to the middle and the second's from there on, and the bounded depth
-- of the stretches is the pieces' depth, cut off. Assumes nothing.
use Rattle.list_laws.proofs.Kit.{◌∙◌, refl, subst, sym, ◌≤◌, ℕ, arith, length, rules}
use Rattle.model.specs.Piece.{Shape, corner}
use Rattle.model.specs.Strip.{strips}
use Rattle.model.specs.Layout.{turned_piece}
use Rattle.model.specs.Lent.{lent_by, job_of}
use Rattle.model.specs.declared.JobSize.{JobSize}
use Rattle.pair_overlap.specs.Meet.{Ordered}
use Rattle.pair_overlap.proofs.Shapes.{entries_depth}
use Rattle.pair_measure.proofs.Stores.{any_size, StretchBehind, piece_most, both_behind, piece_ordered, seen_near, same_depth}
use Rattle.pair_measure.proofs.depth_in.Statement.{statement}
use Rattle.pair_measure.proofs.depth_in.Tie as tie

-- where the function begins, from where both pieces' strips are put
abbrev entry : tie.After-store-2-1 → tie.Start
entry c = search

-- the first piece, and the second
abbrev one : JobSize → tie.After-store-2-1 → Shape
one size c = let s = (entry c).args in turned_piece (job_of (lent_by size s.table.now s.pixels.now)) s.i s.p.turn

abbrev two : JobSize → tie.After-store-2-1 → Shape
two size c = let s = (entry c).args in turned_piece (job_of (lent_by size s.table.now s.pixels.now)) s.k s.q.turn

-- where the first piece's strips end, and the second's
abbrev middle : tie.After-store-2-1 → ℕ
middle c =
    let at_fill : tie.After-fill-middle = search in
    at_fill.fill-middle.result

abbrev end : tie.After-store-2-1 → ℕ
end c = c.before.fill-end.result

-- both stand in the store
behind : (size : JobSize) (c : tie.After-store-2-1)
    → StretchBehind (strips (entry c).args.direction (one size c)) (strips (entry c).args.direction (two size c))
    c.before.fill-end.new.store (middle c) (end c)
behind size c =
    let at_fill : tie.After-fill-middle = search in
    let s = (entry c).args in
    let r = (entry c).requires in
    both_behind size s.table.now s.pixels.now s.i s.k r.0.entry r.1.0.entry _ r.1.1.1 s.p.turn s.q.turn s.direction
    s.store.now at_fill.fill-middle.new.store c.before.fill-end.new.store (middle c) (end c)
    refl (at_fill.fill-middle.ensures size) (c.before.fill-end.ensures size)

-- the first piece has at most 65,536 strips
first-few : (c : tie.After-store-2-1) → length (strips (entry c).args.direction (one any_size c)) ≤ 65536
first-few c =
    let s = (entry c).args in piece_most any_size s.table.now s.pixels.now s.i (entry c).requires.0.entry s.p.turn s.direction

fill-end-requires : tie.Need-fill-end-requires
fill-end-requires c κs =
    let at-start : tie.Start = search in
    let s = at-start.args in
    let r = at-start.requires in
    let few = piece_most any_size s.table.now s.pixels.now s.i r.0.entry s.p.turn s.direction in
    ((r.1.0.entry, r.1.0.few), omega (arith, (c.before.before.fill-middle.ensures any_size).end))

slice_bounds-depth_below-end : tie.Need-slice_bounds-depth_below-end
slice_bounds-depth_below-end c =
    let at-store2 : tie.After-store-2-1 = search in
    let b = behind any_size (at-store2) in omega (arith, b.order, b.within)

slice_bounds-depth_below-count-2 : tie.Need-slice_bounds-depth_below-count-2
slice_bounds-depth_below-count-2 c =
    let at-store2 : tie.After-store-2-1 = search in
    let b = behind any_size (at-store2) in omega (arith, b.order)

slice_bounds-depth_below-start-2 : tie.Need-slice_bounds-depth_below-start-2
slice_bounds-depth_below-start-2 c =
    let at-store2 : tie.After-store-2-1 = search in
    let b = behind any_size (at-store2) in omega (arith, b.order)

slice_bounds-depth_below-end-2 : tie.Need-slice_bounds-depth_below-end-2
slice_bounds-depth_below-end-2 c =
    let at-store2 : tie.After-store-2-1 = search in
    (behind any_size (at-store2)).within

depth_below-requires : tie.Need-depth_below-requires
depth_below-requires c κs =
    let at-corner-along2 : tie.After-corner_along-v = search in
    let at-corner-along : tie.After-corner_along-u = search in
    let at-store2 : tie.After-store-2-1 = search in
    let s = (entry at-store2).args in
    let r = (entry at-store2).requires in
    let b = behind any_size at-store2 in (
      subst Ordered (sym b.first) (piece_ordered any_size s.table.now s.pixels.now s.i r.0.entry s.p.turn s.direction),
      (
        subst Ordered (sym b.second) (piece_ordered any_size s.table.now s.pixels.now s.k r.1.0.entry s.q.turn s.direction),
        (
          (
            seen_near s.direction s.p _ at-corner-along.corner_along-u.ensures r.0.x r.0.y,
            seen_near s.direction s.q _ at-corner-along2.corner_along-v.ensures r.1.0.x r.1.0.y,
          ),
          omega (arith, r.1.1.0),
        ),
      ),
    )

returns : tie.Need-returns
returns c = λ size.
    let at-corner-along2 : tie.After-corner_along-v = search in
    let at-corner-along : tie.After-corner_along-u = search in
    let at-store2 : tie.After-store-2-1 = search in
    let s = (entry at-store2).args in
    let b = behind size at-store2 in
    c.depth_below.ensures
    ∙ same_depth s.gap _ _ _ _ _ _ _ _ s.bound b.first at-corner-along.corner_along-u.ensures b.second at-corner-along2.corner_along-v.ensures
    ∙ entries_depth s.gap s.direction (one size at-store2) (corner s.p) (two size at-store2) (corner s.q) s.bound

pub depth_in_spec : {M : Type 1} → statement M
depth_in_spec =
    tie.close (tie.spec
    (search rules) fill-end-requires (search rules) (search rules) (search rules) (search rules) (search rules) slice_bounds-depth_below-end
    (λ c. let at-store2 : tie.After-store-2-1 = search in let at_fill : tie.After-fill-middle = search in
    let few = first-few at-store2 in let end = (at_fill.fill-middle.ensures any_size).end in omega arith)
    slice_bounds-depth_below-count-2 slice_bounds-depth_below-start-2 slice_bounds-depth_below-end-2 depth_below-requires
    (search rules) returns)
