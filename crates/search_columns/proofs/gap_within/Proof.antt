-- `search_columns::gap_within` meets its contract: the nearer of the lowest clear bit above and the highest one below. Assumes nothing.
use Rattle.list_laws.proofs.Kit.{arith, rules}
use Rattle.search_columns.proofs.Gaps.{above_from, within_from}
use Rattle.search_columns.proofs.gap_within.Statement.{statement}
use Rattle.search_columns.proofs.gap_within.Tie as tie

returns : tie.Need-returns
returns c =
    let at-start : tie.Start = search in
    let at-bits-at : tie.After-bits_at = search in
    let at-clear-below : tie.After-clear_below = search in
    let at-nearer : tie.After-nearer = search in
    let a = at-start.args in
    within_from a.ws.now a.p a.n 64 _ _ (omega arith) (above_from a.ws.now _ _ at-bits-at.bits_at.ensures)
    at-clear-below.clear_below.ensures _ (omega arith) at-nearer.nearer.ensures

pub gap_within_spec : {M : Type 1} → statement M
gap_within_spec = tie.close (tie.spec
    (search rules) (search rules) (search rules) (search rules) (search rules) returns)
