-- `c_interface::piece_with_turn`, by what `turn_of` says of the degrees. Assumes nothing.
use Rattle.list_laws.proofs.Kit.{◌∙◌, sym}
use Rattle.model.specs.Buffer.{turn_of_degrees, turn_passes, is_turn}
use Rattle.layout_places.proofs.Places.{unknown_none, known_some}
use Rattle.c_interface.specs.Numbers.{piece_with_turn}
use Rattle.c_interface.proofs.piece_with_turn.Goals as goal

pub returns-in-Some : goal.returns-in-Some
unfolding is_turn
returns-in-Some c =
    rw (known_some (turn_of_degrees c.args.turn) _ (sym c.in-Some.is ∙ c.turn_of.ensures), piece_with_turn, is_turn, turn_passes)

pub returns-in-None : goal.returns-in-None
unfolding is_turn
returns-in-None c =
    rw (unknown_none (turn_of_degrees c.args.turn) (sym c.in-None.is ∙ c.turn_of.ensures), piece_with_turn, is_turn, turn_passes)
