-- A trial as the code holds it, and a list of trials as a list of numbers. Assumes nothing.
use Rattle.std.specs.Prelude.{List, map, ◌≡◌, ℕ, suc, zero, ◌/◌, ◌%◌}
use Rattle.model.specs.Layout.{Job}
use Rattle.model.specs.Descent as model
use Rattle.model.specs.declared.Turn.{Turn}
use Rattle.model.specs.declared.Turn.TheVariants.{Zero, Quarter, Half, ThreeQuarters}
use Rattle.model.specs.declared.Direction.{Direction}
use Rattle.model.specs.declared.Direction.TheVariants.{Horizontal, Vertical}
use Rattle.run_trials.specs.declared.Trial.{Trial}

-- the model's trial
abbrev pub trial_as : Trial → model.Trial
trial_as k = record { piece = k.piece; turn = k.turn; direction = k.direction }

-- the turn at a place in the order of turns, 0, 90, 180, 270 degrees
unfoldable pub turn_at : ℕ → Turn
turn_at zero = Zero
turn_at (suc zero) = Quarter
turn_at (suc (suc zero)) = Half
turn_at (suc (suc (suc n))) = ThreeQuarters

-- the direction at a place in their order, horizontal before vertical
unfoldable pub direction_at : ℕ → Direction
direction_at zero = Horizontal
direction_at (suc n) = Vertical

-- the trial that a number stands for: the number is (piece × 4 + turn's place) × 2 + direction's place
unfoldable pub trial_of_code : ℕ → model.Trial
trial_of_code code = record { piece = code / 8; turn = turn_at (code / 2 % 4); direction = direction_at (code % 2) }

-- the trials that a list of numbers stands for
abbrev pub trials_of : List ℕ → List model.Trial
trials_of codes = map trial_of_code codes

-- the numbers are those of the job's trials, in their order
abbrev pub TrialList : Job → List ℕ → Type 0
TrialList j codes = trials_of codes ≡ model.trials j

-- the most trials of a job: 64 pieces, 4 turns, 2 directions
abbrev pub trial_bound : ℕ
trial_bound = 512
