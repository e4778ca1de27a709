-- What demand 3 says of whole runs, in the words of document 01, 'Descent and guidance', and of document 02, point 6: locked pieces stay, and
-- the changes that a settled layout is compared with are of one free piece. The theorem that it holds is `demand3` in proofs/Demand3. Assumes
-- nothing.
use Rattle.std.specs.Prelude.{true, false, ◌≡◌, ◌⊎◌, ◌≢◌, ◌↔◌, ℕ, suc, ◌+◌, ◌*◌, ◌<◌, ◌≤◌, length, get_or}
use mathlib.Core.List.{List, [], Memᴰ}
use Rattle.model.specs.Layout.{Job, Layout, allowed, is_locked, inside, place_of, shape_in, corner_in, pairs, weighted_sum, plain_sum}
use Rattle.model.specs.Descent.{Trial, no_trial, Descent, trials, descend}
use Rattle.model.specs.Guided.{weight_bound, raised, Round, Guided, rounds, guide}
use Rattle.model.specs.declared.Turn.{Turn}
use Rattle.model.specs.declared.Direction.{Direction}
use Rattle.model.specs.declared.End.TheVariants.{Clear, Settled, Spent}
use Rattle.overlap_laws.specs.Overlap.{NearPixels}

-- ── what is given ──

-- a weight is from 1 to 65,535
abbrev pub InRange : ℕ → Type 0
InRange w = (1 ≤ w) × (w ≤ weight_bound)

-- a weight for each pair
pub record ValidWeights (j : Job) (ws : List ℕ) : Type 0 where
  pub one_per_pair : length ws ≡ length (pairs j.size.count)
  pub in_range : (k : ℕ) → k < length ws → InRange (get_or ws k 0)

-- a placement for each piece, inside the sheet and in a turn allowed to the piece
pub record ValidLayout (j : Job) (v : Layout) : Type 0 where
  pub one_per_piece : length v ≡ j.size.count
  pub inside_sheet : (i : ℕ) → i < j.size.count → inside j i (place_of v i) ≡ true
  pub turn_allowed : (i : ℕ) → i < j.size.count → allowed j i (place_of v i).turn ≡ true

-- every piece of the job is locked
abbrev pub AllLocked : Job → Type 0
AllLocked j = (i : ℕ) → i < j.size.count → is_locked j i ≡ true

-- ── what is said of a layout ──

-- no two pieces conflict: no pixel of one is at most g columns and at most g rows from a pixel of another. With a gap of 0, no two share a pixel
abbrev pub NoConflict : Job → Layout → Type 0
NoConflict j v =
    (i k : ℕ) → i < k → k < j.size.count → NearPixels j.size.gap (shape_in j v i) (corner_in v i) (shape_in j v k) (corner_in v k) → ⊥

-- each locked piece lies in w where it lies in v
abbrev pub LockedStay : Job → Layout → Layout → Type 0
LockedStay j v w = (i : ℕ) → i < j.size.count → is_locked j i ≡ true → place_of w i ≡ place_of v i

-- w differs from v in one free piece, which lies inside in a turn allowed to it, its corner in the same row or column
pub record Rival (j : Job) (v w : Layout) : Type 0 where
  pub piece : ℕ
  pub there : piece < j.size.count
  pub piece_free : is_locked j piece ≡ false
  pub one_per_piece : length w ≡ j.size.count
  pub others_same : (k : ℕ) → k < j.size.count → k ≢ piece → place_of w k ≡ place_of v k
  pub inside_sheet : inside j piece (place_of w piece) ≡ true
  pub turn_allowed : allowed j piece (place_of w piece).turn ≡ true
  pub same_row_or_column : ((place_of w piece).y ≡ (place_of v piece).y) ⊎ ((place_of w piece).x ≡ (place_of v piece).x)

-- ── trials ──

-- the list of trials, whose length is T: every free piece of the job in every turn allowed to it and both directions, nothing else, each once;
-- none where every piece is locked
pub record TrialsClaims (j : Job) (ts : List Trial) : Type 0 where
  pub every : (i : ℕ) (t : Turn) (d : Direction) → i < j.size.count → is_locked j i ≡ false → allowed j i t ≡ true
      → Memᴰ (record { piece = i; turn = t; direction = d }) ts
  pub piece_there : (k : Trial) → Memᴰ k ts → k.piece < j.size.count
  pub piece_free : (k : Trial) → Memᴰ k ts → is_locked j k.piece ≡ false
  pub turn_allowed : (k : Trial) → Memᴰ k ts → allowed j k.piece k.turn ≡ true
  pub once : (m n : ℕ) → m < n → n < length ts → get_or ts m no_trial ≢ get_or ts n no_trial
  pub none_left : AllLocked j → length ts ≡ 0

-- ── a descent ──

-- what is said of a descent d from v by the weights ws with a budget
pub record DescentClaims (j : Job) (ws : List ℕ) (budget : ℕ) (v : Layout) (d : Descent) : Type 0 where
  -- settled or clear: every layout that differs in one free piece, in any turn allowed to it, anywhere inside with its corner in the
  -- same row or column, has at least as large a weighted sum
  pub rival : (d.end ≡ Settled) ⊎ (d.end ≡ Clear) → (w : Layout) → Rival j d.layout w → d.sum ≤ weighted_sum j ws w
  -- however it ends, its sum is at most the given one
  pub sum_at_most : d.sum ≤ weighted_sum j ws v
  -- and zero exactly when no two pieces conflict
  pub zero_exactly : (d.sum ≡ 0) ↔ NoConflict j d.layout
  -- moves are at most the fall in the sum
  pub moves_at_most_fall : d.moves + d.sum ≤ weighted_sum j ws v
  -- with T trials and S the first sum, a budget of T × (S + 1) or more never ends spent
  pub budget_suffices : length (trials j) * (weighted_sum j ws v + 1) ≤ budget → d.end ≢ Spent
  -- the sum is the weighted sum of the layout at the end
  pub sum_of_layout : d.sum ≡ weighted_sum j ws d.layout
  -- each piece still lies inside in a turn allowed to it
  pub valid : ValidLayout j d.layout
  -- clear exactly when the sum is zero
  pub clear_exactly : (d.end ≡ Clear) ↔ (d.sum ≡ 0)
  -- spent only with the whole budget used, and no trial beyond it
  pub spent_uses_budget : d.end ≡ Spent → d.made ≡ budget
  pub made_within_budget : d.made ≤ budget
  -- no more moves than trials
  pub moves_at_most_made : d.moves ≤ d.made
  -- each locked piece lies where it was given
  pub locked_stay : LockedStay j v d.layout
  -- with every piece locked no trial is made, whatever the budget, and a given layout that is not clear is settled
  pub all_locked : AllLocked j → (d.made ≡ 0) × (d.layout ≡ v) × (weighted_sum j ws v ≢ 0 → d.end ≡ Settled)

-- ── a guided run ──

-- a round is a descent from a valid layout by valid weights, and meets what is said of a descent
pub record RoundClaims (j : Job) (budget : ℕ) (r : Round) : Type 0 where
  pub is_descent : r.descent ≡ descend j r.weights budget r.layout
  pub valid_layout : ValidLayout j r.layout
  pub valid_weights : ValidWeights j r.weights
  pub claims : DescentClaims j r.weights budget r.layout r.descent

-- the next round begins where this one ended, by the weights raised there; this one is not clear
pub record Follows (j : Job) (r next : Round) : Type 0 where
  pub not_clear : r.descent.end ≢ Clear
  pub begins_at_end : next.layout ≡ r.descent.layout
  pub weights_raised : next.weights ≡ raised j r.descent.layout r.weights

-- never looked up: the list of rounds has the round that is asked for
abbrev pub no_round : Round
no_round = record { layout = []; weights = []; descent = record { end = Spent; layout = []; sum = 0; made = 0; moves = 0 } }

-- the round with number k
abbrev pub round_at : List Round → ℕ → Round
round_at rs k = get_or rs k no_round

-- the rounds of a guided run: at most K, each a descent, the first from the given layout and weights, each next from where the one
-- before it ended, and fewer than K only if the last is clear
pub record RoundsClaims (j : Job) (ws : List ℕ) (K budget : ℕ) (v : Layout) (rs : List Round) : Type 0 where
  pub each : (r : Round) → Memᴰ r rs → RoundClaims j budget r
  pub some : 0 < K → 0 < length rs
  pub at_most : length rs ≤ K
  pub first : 0 < length rs → ((round_at rs 0).layout ≡ v) × ((round_at rs 0).weights ≡ ws)
  pub next : (k : ℕ) → suc k < length rs → Follows j (round_at rs k) (round_at rs (suc k))
  pub fewer_means_clear : (k : ℕ) → suc k ≡ length rs → suc k < K → (round_at rs k).descent.end ≡ Clear

-- v is the layout at the end of one of the rounds
pub record RoundEnd (rs : List Round) (v : Layout) : Type 0 where
  pub round : Round
  pub member : Memᴰ round rs
  pub at_end : v ≡ round.descent.layout

-- what is said of a guided run g of at most K rounds from v by the weights ws, each with the budget, whose rounds are rs
pub record GuidedClaims (j : Job) (ws : List ℕ) (K budget : ℕ) (v : Layout) (rs : List Round) (g : Guided) : Type 0 where
  -- the layout is handed back with its own plain sum
  pub sum_of_layout : g.sum ≡ plain_sum j g.layout
  -- zero exactly when no two pieces conflict
  pub zero_exactly : (g.sum ≡ 0) ↔ NoConflict j g.layout
  -- and the least among the given layout's and all rounds' ends
  pub given_or_round_end : (g.layout ≡ v) ⊎ RoundEnd rs g.layout
  pub at_most_given : g.sum ≤ plain_sum j v
  pub at_most_round_ends : (r : Round) → Memᴰ r rs → g.sum ≤ plain_sum j r.descent.layout
  -- each round meets what is said of a descent, and the rounds follow one another
  pub rounds_claims : RoundsClaims j ws K budget v rs
  -- each piece lies inside in a turn allowed to it, and the weights stay between 1 and 65,535
  pub valid_layout : ValidLayout j g.layout
  pub valid_weights : ValidWeights j g.weights
  -- each locked piece lies where it was given
  pub locked_stay : LockedStay j v g.layout
  -- with every piece locked the given layout is handed back, and no trial is made
  pub all_locked : AllLocked j → (g.layout ≡ v) × (g.made ≡ 0) × (g.moves ≡ 0)

-- ── demand 3 ──

-- what demand 3 says of the job's runs from the layout v by the weights ws: of every descent, whatever its budget, and of every
-- guided run, whatever its number of rounds K and its budget, each of its rounds included; T is the length of the list of trials
pub record Demand3 (j : Job) (ws : List ℕ) (v : Layout) : Type 0 where
  pub trials_listed : TrialsClaims j (trials j)
  pub descents : (budget : ℕ) → DescentClaims j ws budget v (descend j ws budget v)
  pub guided_runs : (K budget : ℕ) → GuidedClaims j ws K budget v (rounds j K budget ws v) (guide j K budget ws v)
