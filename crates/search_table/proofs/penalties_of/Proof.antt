-- `search_table::penalties_of` meets its contract: stores of its own, in which nothing is made. Assumes nothing.
use Rattle.list_laws.proofs.Kit.{refl, sym, arith, rules}
use Rattle.layout_strips.proofs.Keeping.{kept_none}
use Rattle.search_table.proofs.penalties_of.Statement.{statement}
use Rattle.search_table.proofs.penalties_of.Tie as tie

slice_bounds-fill_table-end : tie.Need-slice_bounds-fill_table-end
slice_bounds-fill_table-end c = let rows : tie.After-empty_store-rows = search in sym rows.empty_store-rows.ensures

slice_bounds-fill_table-end-2 : tie.Need-slice_bounds-fill_table-end-2
slice_bounds-fill_table-end-2 c = let spans : tie.After-no_spans-row_spans = search in sym spans.no_spans-row_spans.ensures.long

slice_bounds-fill_table-end-3 : tie.Need-slice_bounds-fill_table-end-3
slice_bounds-fill_table-end-3 c = let columns : tie.After-empty_store-columns = search in sym columns.empty_store-columns.ensures

slice_bounds-fill_table-end-4 : tie.Need-slice_bounds-fill_table-end-4
slice_bounds-fill_table-end-4 c = let spans : tie.After-no_spans-column_spans = search in sym spans.no_spans-column_spans.ensures.long

fill_table-requires : tie.Need-fill_table-requires
fill_table-requires c κs =
    let s : tie.Start = search in
    let rows : tie.After-empty_store-rows = search in
    let row-spans : tie.After-no_spans-row_spans = search in
    let columns : tie.After-empty_store-columns = search in
    let column-spans : tie.After-no_spans-column_spans = search in
    let wide = rows.empty_store-rows.ensures in
    let wide2 = columns.empty_store-columns.ensures in (
      s.requires.0,
      (
        kept_none _ _ _ _ _ _ s.requires.0 (omega arith) row-spans.no_spans-row_spans.ensures,
        (kept_none _ _ _ _ _ _ s.requires.0 (omega arith) column-spans.no_spans-column_spans.ensures, (refl, let g = s.requires.1 in omega arith)),
      ),
    )

returns : tie.Need-returns
returns c =
    let filled : tie.After-fill_table = search in
    let s : tie.Start = search in
    filled.fill_table.ensures s.args.size refl

overflow_cast-gap : tie.Need-overflow_cast-gap
overflow_cast-gap c = let s : tie.Start = search in let g = s.requires.1 in omega arith

pub penalties_of_spec : {M : Type 1} → statement M
penalties_of_spec =
    tie.close (tie.spec
    overflow_cast-gap (search rules) (search rules) (search rules) (search rules) slice_bounds-fill_table-end slice_bounds-fill_table-end-2
    slice_bounds-fill_table-end-3 slice_bounds-fill_table-end-4 (search rules) fill_table-requires returns)
