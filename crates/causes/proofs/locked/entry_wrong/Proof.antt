-- `causes::locked::entry_wrong` meets its contract: by the test of its degrees. Assumes nothing.
use Rattle.list_laws.proofs.Kit.{ap, not, rules}
use Rattle.causes.proofs.locked.entry_wrong.Statement.{statement}
use Rattle.causes.proofs.locked.entry_wrong.Tie as tie

returns : tie.Need-returns
returns c =
    let at-start : tie.Start = search in
    let turned : tie.After-allowed_degrees = search in
    (λ size pixels. ap not (turned.allowed_degrees.ensures size pixels), at-start.well_formed.1.1.0.1.0.1)

pub entry_wrong_spec : {M : Type 1} → statement M
entry_wrong_spec = tie.close (tie.spec
    (search rules) (search rules) returns)
