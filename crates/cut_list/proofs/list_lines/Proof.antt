-- `list_lines`: the horizontals stand in front, the verticals behind them. Assumes nothing.
use Rattle.list_laws.proofs.Kit.{arith, rules}
use Rattle.cut_list.proofs.Listed.{small_rows, small_columns, both_count_lem, both_stored}
use Rattle.cut_list.proofs.list_lines.Statement.{statement}
use Rattle.cut_list.proofs.list_lines.Tie as tie

put_lines-next-requires : tie.Need-put_lines-next-requires
put_lines-next-requires c κs =
    let s : tie.Start = search in
    let grid : tie.After-grid_of-rows = search in
    (rw grid.grid_of-rows.ensures (small_rows s.args.size s.requires), omega arith)

put_lines-requires : tie.Need-put_lines-requires
put_lines-requires c κs =
    let s : tie.Start = search in
    let grid : tie.After-grid_of-columns = search in
    let first : tie.After-put_lines-next = search in
    let next = first.put_lines-next.ensures.1 in
    (rw grid.grid_of-columns.ensures (small_columns s.args.size s.requires), omega arith)

returns : tie.Need-returns
returns c =
    let s : tie.Start = search in
    let rows : tie.After-grid_of-rows = search in
    let columns : tie.After-grid_of-columns = search in
    let first : tie.After-put_lines-next = search in
    let a = rw rows.grid_of-rows.ensures at first.put_lines-next.ensures.0 in
    let b = rw columns.grid_of-columns.ensures at c.before.put_lines.ensures.0 in
    (both_count_lem s.args.size s.args.owners.now a b, both_stored s.args.size s.args.owners.now a b)

pub list_lines_spec : {M : Type 1} → statement M
list_lines_spec = tie.close (tie.spec
    (search rules) put_lines-next-requires (search rules) put_lines-requires (search rules) returns)
