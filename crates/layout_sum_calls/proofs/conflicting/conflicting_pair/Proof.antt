-- `layout_sum_calls::conflicting::conflicting_pair` meets its contract: a store of its own, in which nothing is made. Assumes nothing.
use Rattle.list_laws.proofs.Kit.{refl, sym, arith, rules}
use Rattle.layout_strips.proofs.Keeping.{kept_none}
use Rattle.layout_sum_calls.proofs.conflicting.conflicting_pair.Statement.{statement}
use Rattle.layout_sum_calls.proofs.conflicting.conflicting_pair.Tie as tie

slice_bounds-first_conflicting-end : tie.Need-slice_bounds-first_conflicting-end
slice_bounds-first_conflicting-end c = let rows : tie.After-empty_store-rows = search in sym rows.empty_store-rows.ensures

slice_bounds-first_conflicting-end-2 : tie.Need-slice_bounds-first_conflicting-end-2
slice_bounds-first_conflicting-end-2 c = let spans : tie.After-no_spans-row_spans = search in sym spans.no_spans-row_spans.ensures.long

first_conflicting-requires : tie.Need-first_conflicting-requires
first_conflicting-requires c κs =
    let s : tie.Start = search in
    let rows : tie.After-empty_store-rows = search in
    let spans : tie.After-no_spans-row_spans = search in
    let wide = rows.empty_store-rows.ensures in
    (s.requires.0, (kept_none _ _ _ _ _ _ s.requires.0 (omega arith) spans.no_spans-row_spans.ensures, let g = s.requires.1 in omega arith))

returns : tie.Need-returns
returns c =
    let walked : tie.After-first_conflicting = search in
    let s : tie.Start = search in
    walked.first_conflicting.ensures s.args.size refl

overflow_cast-gap : tie.Need-overflow_cast-gap
overflow_cast-gap c = let s : tie.Start = search in let g = s.requires.1 in omega arith

pub conflicting_pair_spec : {M : Type 1} → statement M
conflicting_pair_spec =
    tie.close (tie.spec
    overflow_cast-gap (search rules) (search rules) slice_bounds-first_conflicting-end slice_bounds-first_conflicting-end-2 first_conflicting-requires
    returns)
