-- `sigbrol::strips::sigbrol_stretch_refusal` meets its contract, as the call that it hands on meets its own. Assumes nothing.
use Rattle.list_laws.proofs.Kit.{rules}
use Rattle.sigbrol.proofs.strips.sigbrol_stretch_refusal.Statement.{statement}
use Rattle.sigbrol.proofs.strips.sigbrol_stretch_refusal.Tie as tie

size_of-size-requires : tie.Need-size_of-size-requires
size_of-size-requires c κs = tt

direction_of-direction-requires : tie.Need-direction_of-direction-requires
direction_of-direction-requires c κs = tt

stretch_refusal-requires : tie.Need-stretch_refusal-requires
stretch_refusal-requires c κs = tt

returns : tie.Need-returns
returns c = rw (c.size_of-size.ensures, c.direction_of-direction.ensures) at c.stretch_refusal.ensures

pub sigbrol_stretch_refusal_spec : {M : Type 1} → statement M
sigbrol_stretch_refusal_spec = tie.close (tie.spec
    size_of-size-requires direction_of-direction-requires stretch_refusal-requires (search rules) returns)
