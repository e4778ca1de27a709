-- `pair_overlap::clear_below`: the first of the shifts that part. Assumes nothing.
use Rattle.list_laws.proofs.Kit.{rules}
use Rattle.pair_overlap.proofs.clear_below.Statement.{statement}
use Rattle.pair_overlap.proofs.clear_below.Tie as tie

returns : tie.Need-returns
returns c = c.clear_stretch-s.ensures.least

pub clear_below_spec : {M : Type 1} → statement M
clear_below_spec = tie.close (tie.spec
    (λ c κs. search rules) returns)
