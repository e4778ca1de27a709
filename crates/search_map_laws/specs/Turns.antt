-- Turns counted back. Assumes nothing.
use Rattle.model.specs.declared.Turn.{Turn}
use Rattle.model.specs.declared.Turn.TheVariants.{Zero, Quarter, Half, ThreeQuarters}

-- the turn that is a quarter turn less
abbrev pub turn_before : Turn → Turn
turn_before Zero = ThreeQuarters
turn_before Quarter = Zero
turn_before Half = Quarter
turn_before ThreeQuarters = Half
