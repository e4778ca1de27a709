-- `search_line_store::free_units` meets its contract: what is used ends where free units begin. Assumes nothing.
use Rattle.list_laws.proofs.Kit.{arith, rules}
use Rattle.search_line_store.proofs.Stretching.{free_behind, free_first}
use Rattle.search_line_store.proofs.free_units.Statement.{statement}
use Rattle.search_line_store.proofs.free_units.Tie as tie

returns-then-table_end-used : tie.Need-returns-then-table_end-used
returns-then-table_end-used c =
    let at-start : tie.Start = search in
    let at-short : tie.After-short_at-used = search in
    let a = at-start.args in
    let at_first : tie.After-table_end = search in
    let used = at-short.short_at-used.ensures.0 in
    let first = at_first.table_end.ensures in
    rw used (free_behind a.slots a.units a.bytes.now at-start.requires.0 (omega (arith, c.if-table_end-used.true)))

returns : tie.Need-returns
returns c =
    let at-start : tie.Start = search in
    let gone : tie.After-give_up = search in
    let a = at-start.args in
    free_first a.slots a.units a.bytes.now _ gone.give_up.ensures at-start.requires.1.0

pub free_units_spec : {M : Type 1} → statement M
free_units_spec =
    tie.close (tie.spec
    (search rules) (search rules) (search rules) (search rules) (search rules) (search rules) (search rules) returns-then-table_end-used
    (search rules) (search rules) returns)
