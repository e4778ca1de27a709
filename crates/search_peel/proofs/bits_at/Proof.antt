-- `search_peel::bits_at` meets its contract: a word's upper bits and the next one's lower bits. Assumes nothing.
use Rattle.list_laws.proofs.Kit.{◌/◌, arith, rules}
use Rattle.search_peel.proofs.Windows.{window}
use Rattle.search_peel.proofs.bits_at.Statement.{statement}
use Rattle.search_peel.proofs.bits_at.Tie as tie

returns : tie.Need-returns
returns c =
    let at-start : tie.Start = search in
    let a = at-start.args in
    window a.ws.now a.p (omega (arith, c.before.shared_slice_known-1.given (a.p / 64)))

pub bits_at_spec : {M : Type 1} → statement M
bits_at_spec =
    tie.close (tie.spec
    (search rules) (search rules) (search rules) (search rules) (search rules) (search rules) (search rules) (search rules) returns)
