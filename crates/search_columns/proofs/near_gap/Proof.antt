-- `search_columns::near_gap` meets its contract: the upper half of the word has the bits from p on, the lower one those before it. Assumes nothing.
use Rattle.list_laws.proofs.Kit.{arith, rules}
use Rattle.search_columns.proofs.Gaps.{near_from}
use Rattle.search_columns.proofs.near_gap.Statement.{statement}
use Rattle.search_columns.proofs.near_gap.Tie as tie

returns : tie.Need-returns
returns c =
    let at-start : tie.Start = search in
    let at-bits-at : tie.After-bits_at-clear = search in
    let at-nearer : tie.After-nearer = search in
    let a = at-start.args in
    near_from a.ws.now a.p _ _ (omega arith) at-bits-at.bits_at-clear.ensures at-nearer.nearer.ensures

pub near_gap_spec : {M : Type 1} → statement M
near_gap_spec =
    tie.close (tie.spec
    (search rules) (search rules) (search rules) (search rules) (search rules) (search rules) returns)
