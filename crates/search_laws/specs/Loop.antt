-- Where the loop over trials stands, from its parts, and one trial's search. Assumes nothing.
use Rattle.std.specs.Prelude.{List, ℕ}
use Rattle.std.proofs.Math.Option.{Option}
use Rattle.model.specs.Layout.{Layout, Job, piece_sum}
use Rattle.model.specs.Descent.{Trial, Progress, trial_line}
use Rattle.model.specs.Search.{sum_at, places, Best}
use Rattle.search_laws.specs.BoundedSearch.{below_bound}

-- the layout, the quiet count, trials made, moves, and the place of the trial that comes next
abbrev pub standing : Layout → ℕ → ℕ → ℕ → ℕ → Progress
standing v quiet_count made moves next = record { layout = v; quiet_count = quiet_count; made = made; moves = moves; next = next }

-- the sums on a trial's line
abbrev pub trial_sums : Job → List ℕ → Layout → Trial → ℕ → ℕ
trial_sums j ws v k = sum_at j ws v k.piece k.turn (trial_line v k)

-- how many places a trial's line has
abbrev pub trial_places : Job → Layout → Trial → ℕ
trial_places j v k = places j k.piece k.turn (trial_line v k)

-- what a trial searches for: the least sum below the piece's present one
abbrev pub trial_search : Job → List ℕ → Layout → Trial → Option Best
trial_search j ws v k = below_bound (trial_sums j ws v k) (trial_places j v k) (piece_sum j ws v k.piece)
