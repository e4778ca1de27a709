-- `pair_measure::corner_along`: the corner of each direction is the definition's. Assumes nothing.
use Rattle.list_laws.proofs.Kit.{rules}
use Rattle.pair_measure.proofs.corner_along.Statement.{statement}
use Rattle.pair_measure.proofs.corner_along.Tie as tie

-- src/lib.rt:54:1
returns-in-Horizontal : tie.Need-returns-in-Horizontal
returns-in-Horizontal c = search rules

-- src/lib.rt:54:1
returns-in-Vertical : tie.Need-returns-in-Vertical
returns-in-Vertical c = search rules

pub corner_along_spec : {M : Type 1} → statement M
corner_along_spec = tie.close (tie.spec
    (search rules) (search rules) (search rules) (search rules) returns-in-Horizontal returns-in-Vertical)
