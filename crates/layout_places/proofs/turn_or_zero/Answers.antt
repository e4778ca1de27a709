-- `layout_places::turn_or_zero`: what `unwrap_or` answers of the turn that may be missing. Assumes nothing.
use Rattle.list_laws.proofs.Kit.{◌∙◌}
use Rattle.model.specs.Buffer.{turn_of, turn_of_degrees}
use Rattle.layout_places.proofs.Places.{known_or_zero}
use Rattle.layout_places.proofs.turn_or_zero.Goals as goal

pub returns : goal.returns
unfolding turn_of
returns c = c.unwrap_or.ensures ∙ (rw c.turn_of.ensures (known_or_zero (turn_of_degrees c.args.degrees)))
