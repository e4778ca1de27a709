-- `layout_compact_calls::push_layout` meets its contract: the buffer is written as its layout, the strips of all pieces are drawn into stores in which
-- none was, and the pieces are pushed. Assumes nothing.
use Rattle.list_laws.proofs.Kit.{◌∙◌, ap, sym, arith, rules}
use Rattle.model.specs.Layout.{Layout}
use Rattle.model.specs.Lent.{Lent, lent_by, job_of}
use Rattle.model.specs.Buffer.{entries_of}
use Rattle.model.specs.Compact.{compact}
use Rattle.layout_strips.proofs.Keeping.{laid_drawable, kept_none}
use Rattle.layout_compact_calls.proofs.Written.{same_layout_lem, laid_again, as_written}
use Rattle.layout_compact_calls.proofs.push_layout.Statement.{statement}
use Rattle.layout_compact_calls.proofs.push_layout.Tie as tie

-- the lent job
abbrev lent : tie.Start → Lent
lent s = lent_by s.args.size s.args.table.now s.args.pixels.now

-- where the strips along the rows are drawn, from where those along the columns are
abbrev along-rows : tie.After-draw_all-2 → tie.After-draw_all
along-rows c = search

-- where the buffer is written, and where the function begins
abbrev wrote : tie.After-draw_all → tie.After-write_entries
wrote c = search

abbrev begun : tie.After-draw_all → tie.Start
begun c = search

slice_bounds-draw_all-end : tie.Need-slice_bounds-draw_all-end
slice_bounds-draw_all-end c = let rows : tie.After-empty_store-rows = search in sym rows.empty_store-rows.ensures

slice_bounds-draw_all-end-2 : tie.Need-slice_bounds-draw_all-end-2
slice_bounds-draw_all-end-2 c = let spans : tie.After-no_spans-row_spans = search in sym spans.no_spans-row_spans.ensures.long

draw_all-requires : tie.Need-draw_all-requires
draw_all-requires c κs =
    let s : tie.Start = search in
    let written : tie.After-write_entries = search in
    let rows : tie.After-empty_store-rows = search in
    let spans : tie.After-no_spans-row_spans = search in
    let wide = rows.empty_store-rows.ensures in
    let drawable = laid_drawable (lent s) _ (laid_again (lent s) _ _ s.requires written.write_entries.ensures) in
    (drawable, kept_none _ _ _ _ _ _ drawable (omega arith) spans.no_spans-row_spans.ensures)

slice_bounds-draw_all-end-3 : tie.Need-slice_bounds-draw_all-end-3
slice_bounds-draw_all-end-3 c = let columns : tie.After-empty_store-columns = search in sym columns.empty_store-columns.ensures

slice_bounds-draw_all-end-4 : tie.Need-slice_bounds-draw_all-end-4
slice_bounds-draw_all-end-4 c = let spans : tie.After-no_spans-column_spans = search in sym spans.no_spans-column_spans.ensures.long

draw_all-requires-2 : tie.Need-draw_all-requires-2
draw_all-requires-2 c κs =
    let rows : tie.After-draw_all = search in
    let s = begun rows in
    let written = wrote rows in
    let columns : tie.After-empty_store-columns = search in
    let spans : tie.After-no_spans-column_spans = search in
    let wide = columns.empty_store-columns.ensures in
    let drawable = laid_drawable (lent s) _ (laid_again (lent s) _ _ s.requires written.write_entries.ensures) in
    (drawable, kept_none _ _ _ _ _ _ drawable (omega arith) spans.no_spans-column_spans.ensures)

push_all-requires : tie.Need-push_all-requires
push_all-requires c κs =
    let columns : tie.After-draw_all-2 = search in
    let rows = along-rows columns in
    let s = begun rows in
    let e = (wrote rows).write_entries.ensures in
    record {
      laid = laid_again (lent s) _ _ s.requires e;
      written = as_written (lent s) _ _ s.requires e;
      rows_drawn = rows.draw_all.ensures;
      columns_drawn = columns.draw_all-2.ensures;
    }

returns : tie.Need-returns
returns c =
    let pushed : tie.After-push_all = search in
    let columns : tie.After-draw_all-2 = search in
    let rows = along-rows columns in
    let s = begun rows in
    let same = same_layout_lem (lent s) _ _ s.requires (wrote rows).write_entries.ensures in
    let j = job_of (lent s) in (
      pushed.push_all.ensures.0 ∙ ap (λ (v : Layout). (compact j v).slid) same,
      pushed.push_all.ensures.1 ∙ ap (λ (v : Layout). entries_of (compact j v).layout) same,
    )

pub push_layout_spec : {M : Type 1} → statement M
push_layout_spec =
    tie.close (tie.spec
    (search rules) (search rules) (search rules) slice_bounds-draw_all-end slice_bounds-draw_all-end-2 draw_all-requires (search rules) (search rules)
    slice_bounds-draw_all-end-3 slice_bounds-draw_all-end-4 draw_all-requires-2 (search rules) (search rules) (search rules) (search rules)
    push_all-requires (search rules) (search rules) returns)
