-- `causes::weights_missing` meets its contract: by the tests. Assumes nothing.
use Rattle.list_laws.proofs.Kit.{arith, rules}
use Rattle.causes.proofs.weights_missing.Statement.{statement}
use Rattle.causes.proofs.weights_missing.Tie as tie

returns-then-n-gt-PIECE_BOUND : tie.Need-returns-then-n-gt-PIECE_BOUND
returns-then-n-gt-PIECE_BOUND c = λ few. absurd (omega (arith, c.if-n-gt-PIECE_BOUND.true))

returns : tie.Need-returns
returns c = λ few. rw c.pair_count.ensures

pub weights_missing_spec : {M : Type 1} → statement M
weights_missing_spec = tie.close (tie.spec
    returns-then-n-gt-PIECE_BOUND (search rules) returns)
