-- Document 01, 'Descent and guidance', first part: trials, their order, one trial's outcome, and a whole descent; document 02, point 6: a locked
-- piece has no trial.
-- A descent runs over any list of trials and knows nothing of how a trial is judged. Assumes nothing.
use Rattle.std.specs.Prelude.{true, false, List, [], ◌∷◌, ◌++◌, ℕ, zero, suc, ltb, eqb, length, get_or}
use Rattle.std.proofs.Math.Option.{Option, none, some}
use Rattle.model.specs.Piece.{line_through}
use Rattle.model.specs.Layout.{Job, Layout, allowed, is_locked, place_of, piece_sum, weighted_sum}
use Rattle.model.specs.Search.{Best, moved_to, search_line}
use Rattle.model.specs.declared.Turn.{Turn}
use Rattle.model.specs.declared.Turn.TheVariants.{Zero, Quarter, Half, ThreeQuarters}
use Rattle.model.specs.declared.Direction.{Direction}
use Rattle.model.specs.declared.Direction.TheVariants.{Horizontal, Vertical}
use Rattle.model.specs.declared.Line.{Line}
use Rattle.model.specs.declared.End.{End}
use Rattle.model.specs.declared.End.TheVariants.{Clear, Settled, Spent}

-- ── trials ──

-- a trial: a piece, an allowed turn and a direction
pub record Trial : Type 0 where
  pub piece : ℕ
  pub turn : Turn
  pub direction : Direction

-- the two trials of a piece in a turn, horizontal first, if the turn is allowed
unfoldable pub turn_trials : Job → ℕ → Turn → List Trial
turn_trials j i t =
    elim (allowed j i t) [
      | true ↦ record { piece = i; turn = t; direction = Horizontal } ∷ record { piece = i; turn = t; direction = Vertical } ∷ []
      | false ↦ []
    ]

-- the trials of one piece, by turn; a locked piece has none
unfoldable pub piece_trials : Job → ℕ → List Trial
piece_trials j i =
    elim (is_locked j i)
    [ true ↦ [] | false ↦ turn_trials j i Zero ++ turn_trials j i Quarter ++ turn_trials j i Half ++ turn_trials j i ThreeQuarters ]

-- the trials of the next `left` pieces from i on
unfoldable pub trials_from : Job → ℕ → ℕ → List Trial
trials_from j i zero = []
trials_from j i (suc left) = piece_trials j i ++ trials_from j (suc i) left

-- all trials of free pieces, in order of piece, turn, horizontal before vertical; T is its length
unfoldable pub trials : Job → List Trial
trials j = trials_from j 0 j.size.count

-- what a trial comes to: a move, with the layout after it, or quiet
pub data Attempt : Type 0 where
  moved : Layout → Attempt
  quiet : Attempt

-- a move exactly where the least is below the present sum
abbrev pub judged : ℕ → (ℕ → Layout) → Option Best → Attempt
judged present place none = quiet
judged present place (some b) = elim (ltb b.sum present) [ true ↦ moved (place b.at) | false ↦ quiet ]

-- the line that a trial searches: through the present corner of its piece
abbrev pub trial_line : Layout → Trial → Line
trial_line v k = line_through k.direction (place_of v k.piece)

-- a trial by the given weights: the line search against the piece's present pair sum
unfoldable pub attempt : Job → List ℕ → Layout → Trial → Attempt
attempt j ws v k =
    judged (piece_sum j ws v k.piece) (moved_to v k.piece k.turn (trial_line v k))
    (search_line j ws v k.piece k.turn (trial_line v k))

-- ── a run of trials ──

-- where a descent stands: the layout, the quiet count, trials made, moves, and the number of the next trial
pub record Progress : Type 0 where
  pub layout : Layout
  pub quiet_count : ℕ
  pub made : ℕ
  pub moves : ℕ
  pub next : ℕ

-- what a descent gives: how it ended, the layout there, its sum, trials made and moves
pub record Descent : Type 0 where
  pub end : End
  pub layout : Layout
  pub sum : ℕ
  pub made : ℕ
  pub moves : ℕ

-- after the last trial comes the first
abbrev pub trial_after : ℕ → ℕ → ℕ
trial_after count k = elim (ltb (suc k) count) [ true ↦ suc k | false ↦ 0 ]

-- the first trial, no quiet ones
abbrev pub begin : Layout → Progress
begin v = record { layout = v; quiet_count = 0; made = 0; moves = 0; next = 0 }

-- after a trial that came to the given attempt: a move makes the quiet count 0, a quiet trial adds 1 to it
abbrev pub proceed : ℕ → Progress → Attempt → Progress
proceed count s (moved v) =
    record { layout = v; quiet_count = 0; made = suc s.made; moves = suc s.moves; next = trial_after count s.next }
proceed count s quiet =
    record { layout = s.layout; quiet_count = suc s.quiet_count; made = suc s.made; moves = s.moves; next = trial_after count s.next }

-- never looked up: while a descent goes on the list of trials has the trial that comes next
abbrev pub no_trial : Trial
no_trial = record { piece = 0; turn = Zero; direction = Horizontal }

module _ (sum : Layout → ℕ) (try : Layout → Trial → Attempt) (ts : List Trial) where
  -- the next trial, taken
  abbrev pub step : Progress → Progress
  step s = proceed (length ts) s (try s.layout (get_or ts s.next no_trial))

  -- the descent ends here
  abbrev pub ended : End → Progress → Descent
  ended e s = record { end = e; layout = s.layout; sum = sum s.layout; made = s.made; moves = s.moves }

  -- the end that is reached here whatever is left of the budget: sum zero, clear; else quiet count T, settled
  abbrev pub ends_at : Progress → Option End
  ends_at s =
      elim (eqb (sum s.layout) 0)
      [ true ↦ some Clear | false ↦ elim (eqb s.quiet_count (length ts)) [ true ↦ some Settled | false ↦ none ] ]

  -- from here on with so much of the budget left; where no end is reached and the budget is used up, spent
  unfoldable pub descend_from : ℕ → Progress → Descent
  descend_from zero s = elim (ends_at s) [ some e ↦ ended e s | none ↦ ended Spent s ]
  descend_from (suc left) s = elim (ends_at s) [ some e ↦ ended e s | none ↦ descend_from left (step s) ]

-- the descent of a job by given weights, from a layout, with a budget
unfoldable pub descend : Job → List ℕ → ℕ → Layout → Descent
descend j ws budget v = descend_from (weighted_sum j ws) (attempt j ws) (trials j) budget (begin v)
