-- A trial, and when it is one of a job's (document 01, 'Descent and guidance'; document 02, point 6). Assumes nothing.
use Rattle.std.specs.Prelude.{true, false, ◌≡◌, ℕ, ◌<◌, ◌≤◌}
use Rattle.model.specs.Descent.{Trial}
use Rattle.model.specs.declared.Turn.{Turn}
use Rattle.model.specs.declared.Turn.TheVariants.{Zero, Quarter, Half, ThreeQuarters}
use Rattle.model.specs.declared.Direction.{Direction}
use Rattle.model.specs.Layout.{Job, allowed, is_locked}

-- a turn's place in the order of turns, 0, 90, 180, 270 degrees: the number by which the code tells turns apart
abbrev pub turn_number : Turn → ℕ
turn_number Zero = 0
turn_number Quarter = 1
turn_number Half = 2
turn_number ThreeQuarters = 3

-- the trial of a piece, a turn and a direction
abbrev pub trial_of : ℕ → Turn → Direction → Trial
trial_of i t d = record { piece = i; turn = t; direction = d }

-- a trial's piece lies between the two numbers and is free, and its turn is allowed to it
pub record Proper (j : Job) (i n : ℕ) (k : Trial) : Type 0 where
  pub from : i ≤ k.piece
  pub below : k.piece < n
  pub piece_free : is_locked j k.piece ≡ false
  pub turn_allowed : allowed j k.piece k.turn ≡ true
