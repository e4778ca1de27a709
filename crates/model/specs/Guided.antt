-- Document 01, 'Descent and guidance', second part: rounds of descent with weights raised in between, and the best layout.
-- Assumes nothing.
use Rattle.std.specs.Prelude.{Bool, true, false, List, [], ◌∷◌, ℕ, zero, suc, ◌+◌, min, ltb}
use Rattle.model.specs.Layout.{Job, Layout, Pair, pairs, pair_conflicts, plain_sum}
use Rattle.model.specs.Descent.{Descent, descend}
use Rattle.model.specs.declared.End.{End}
use Rattle.model.specs.declared.End.TheVariants.{Clear, Settled, Spent}

-- the largest weight
abbrev pub weight_bound : ℕ
weight_bound = 65535

-- the weight of each pair that passes raised by 1, the largest kept; the k-th weight is the k-th pair's
unfoldable pub raised_over : (Pair → Bool) → List Pair → List ℕ → List ℕ
raised_over test ps [] = []
raised_over test [] (w ∷ ws) = w ∷ ws
raised_over test (p ∷ ps) (w ∷ ws) = elim (test p) [ true ↦ min (suc w) weight_bound | false ↦ w ] ∷ raised_over test ps ws

-- the weights after a round that is not clear: each pair that conflicts at its end is raised
unfoldable pub raised : Job → Layout → List ℕ → List ℕ
raised j v ws = raised_over (pair_conflicts j v) (pairs j.size.count) ws

-- a round: the layout and weights that it begins with, and its descent
pub record Round : Type 0 where
  pub layout : Layout
  pub weights : List ℕ
  pub descent : Descent

-- the descent ended clear
abbrev pub is_clear : End → Bool
is_clear Clear = true
is_clear Settled = false
is_clear Spent = false

-- the weights after the round: raised unless it is clear
abbrev pub weights_after : Job → Round → List ℕ
weights_after j r = elim (is_clear r.descent.end) [ true ↦ r.weights | false ↦ raised j r.descent.layout r.weights ]

-- a round from a layout by given weights
abbrev pub round_from : Job → ℕ → List ℕ → Layout → Round
round_from j budget ws v = record { layout = v; weights = ws; descent = descend j ws budget v }

-- the rounds of a guided run, at most so many: each begins where the one before it ended, and clear ends the run
unfoldable pub rounds : Job → ℕ → ℕ → List ℕ → Layout → List Round
rounds j zero budget ws v = []
rounds j (suc left) budget ws v =
    let r : Round = round_from j budget ws v in
    r ∷ elim (is_clear r.descent.end) [ true ↦ [] | false ↦ rounds j left budget (weights_after j r) r.descent.layout ]

-- the best layout so far, and a round's end: the end where its plain sum is smaller
abbrev pub best_of : Job → Layout → Layout → Layout
best_of j best v = elim (ltb (plain_sum j v) (plain_sum j best)) [ true ↦ v | false ↦ best ]

-- the best layout after the rounds
unfoldable pub best_after : Job → Layout → List Round → Layout
best_after j best [] = best
best_after j best (r ∷ rs) = best_after j (best_of j best r.descent.layout) rs

-- the weights after the last round
unfoldable pub last_weights : Job → List ℕ → List Round → List ℕ
last_weights j ws [] = ws
last_weights j ws (r ∷ rs) = last_weights j (weights_after j r) rs

-- the trials and the moves of all rounds
unfoldable pub made_in : List Round → ℕ
made_in [] = 0
made_in (r ∷ rs) = r.descent.made + made_in rs

unfoldable pub moves_in : List Round → ℕ
moves_in [] = 0
moves_in (r ∷ rs) = r.descent.moves + moves_in rs

-- what a guided run gives
pub record Guided : Type 0 where
  pub layout : Layout
  pub sum : ℕ
  pub weights : List ℕ
  pub made : ℕ
  pub moves : ℕ

-- the outcome of given rounds from a given layout and weights
unfoldable pub outcome : Job → List ℕ → Layout → List Round → Guided
outcome j ws v rs =
    let best : Layout = best_after j v rs in
    record { layout = best; sum = plain_sum j best; weights = last_weights j ws rs; made = made_in rs; moves = moves_in rs }

-- a guided run of at most so many rounds, each with the budget
unfoldable pub guide : Job → ℕ → ℕ → List ℕ → Layout → Guided
guide j count budget ws v = outcome j ws v (rounds j count budget ws v)
