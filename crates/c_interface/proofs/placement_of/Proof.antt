-- `c_interface::placement_of` meets its contract by what `turn_or_zero` says of the degrees. Assumes nothing.
use Rattle.list_laws.proofs.Kit.{rules}
use Rattle.c_interface.proofs.placement_of.Statement.{statement}
use Rattle.c_interface.proofs.placement_of.Tie as tie

returns : tie.Need-returns
returns c = rw c.turn_or_zero-turn.ensures

pub placement_of_spec : {M : Type 1} → statement M
placement_of_spec = tie.close (tie.spec
    (search rules) returns)
