-- The answer for a turn that is read. Assumes nothing.
use Rattle.std.proofs.Math.Option as maybe
use Rattle.std.specs.Prelude.{Option, Some, None}
use Rattle.model.specs.declared.Turn.{Turn}

-- the turn that degrees are, if there is one
abbrev pub turn_answer : maybe.Option Turn → Option Turn
turn_answer maybe.none = None
turn_answer (maybe.some t) = Some t
