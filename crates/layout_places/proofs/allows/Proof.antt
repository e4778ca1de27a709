-- `layout_places::allows` meets its contract: a turn's part of the sum is not 0, so that the sum can be divided by it. Assumes nothing.
use Rattle.list_laws.proofs.Kit.{rules}
use Rattle.model.specs.Piece.{allows}
use Rattle.layout_places.proofs.Places.{bit_positive}
use Rattle.layout_places.proofs.allows.Statement.{statement}
use Rattle.layout_places.proofs.allows.Tie as tie

nonzero_div-result : tie.Need-nonzero_div-result
nonzero_div-result c = rw c.turn_bit.ensures (bit_positive c.before.args.turn)

returns : tie.Need-returns
unfolding allows
returns c = rw c.turn_bit.ensures

pub allows_spec : {M : Type 1} → statement M
allows_spec = tie.close (tie.spec
    (search rules) nonzero_div-result returns)
