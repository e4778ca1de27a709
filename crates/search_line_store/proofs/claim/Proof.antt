-- `search_line_store::claim` meets its contract: the slot's own stretch, or free units that its entry and what is used then tell. Assumes nothing.
use Rattle.list_laws.proofs.Kit.{arith, rules}
use Rattle.search_line_store.proofs.Stretching.{claim_own, claim_free}
use Rattle.search_line_store.proofs.claim.Statement.{statement}
use Rattle.search_line_store.proofs.claim.Tie as tie

free_units-place-requires : tie.Need-free_units-place-requires
free_units-place-requires c κs = let at-start : tie.Start = search in (at-start.requires.0, at-start.requires.1.1)

returns-then-fits : tie.Need-returns-then-fits
returns-then-fits c =
    let at-start : tie.Start = search in
    let at-units : tie.After-units_of-own = search in
    let at-begin : tie.After-begin_of = search in
    let a = at-start.args in
    let own : tie.Then-fits = search in
    let units = at-units.units_of-own.ensures.0 in
    rw at-begin.begin_of.ensures (claim_own a.slots a.slot a.units a.bytes.now at-start.requires.0 (omega (arith, own.if-fits.true)))

returns : tie.Need-returns
returns c =
    let at-start : tie.Start = search in
    let at-free : tie.After-free_units-place = search in
    let at_place : tie.After-put_short = search in
    let at_count : tie.After-put_short-2 = search in
    let at-used : tie.After-put_short-3 = search in
    let at_first : tie.After-table_end = search in
    let a = at-start.args in
    rw at_first.table_end.ensures
    (claim_free a.slots a.slot a.units a.bytes.now _ _ _ _ at-free.free_units-place.result at-free.free_units-place.ensures at-start.requires.1.0.0
    at_place.put_short.ensures at_count.put_short-2.ensures at-used.put_short-3.ensures)

pub claim_spec : {M : Type 1} → statement M
claim_spec =
    tie.close (tie.spec
    (search rules) (search rules) (search rules) returns-then-fits free_units-place-requires (search rules) (search rules) (search rules)
    (search rules) (search rules) (search rules) (search rules) (search rules) (search rules) (search rules) (search rules) (search rules) returns)
