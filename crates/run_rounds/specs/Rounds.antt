-- The better of two layouts, what comes after a round, and what the rounds of a guided run leave in their buffers. Assumes nothing.
use Rattle.std.specs.Prelude.{true, false, List, ◌≡◌, ℕ, ◌-◌, ◌≤◌, ltb}
use Rattle.model.specs.Layout.{Job, Layout}
use Rattle.model.specs.Guided.{raised, is_clear, guide}
use Rattle.model.specs.Lent.{Lent, job_of}
use Rattle.model.specs.Buffer.{layout_of, entries_of}
use Rattle.model.specs.declared.End.{End}
use Rattle.search_laws.specs.Results.{guided_of}
use Rattle.model.specs.Calls.{budget_bound, round_bound}
use Rattle.run_rounds.specs.declared.Tally.{Tally}
use Rattle.run_rounds.specs.declared.Terms.{Terms}

-- the better of a round's end and the best layout so far, by their plain sums
abbrev pub better_round : ℕ → ℕ → List (List ℕ) → List (List ℕ) → List (List ℕ)
better_round sum bestSum end best = elim (ltb sum bestSum) [ true ↦ end | false ↦ best ]

-- its plain sum
abbrev pub better_sum : ℕ → ℕ → ℕ
better_sum sum bestSum = elim (ltb sum bestSum) [ true ↦ sum | false ↦ bestSum ]

-- how many rounds are left after a round with a given end, of those that were left before it: clear ends the run
abbrev pub left_after : End → ℕ → ℕ
left_after end left = elim (is_clear end) [ true ↦ 0 | false ↦ left - 1 ]

-- the weights after a round that ends at a layout: raised unless it is clear
abbrev pub raised_after : Job → Layout → End → List ℕ → List ℕ
raised_after j v end ws = elim (is_clear end) [ true ↦ ws | false ↦ raised j v ws ]

-- terms in document 01's range
pub record InRange (t : Terms) : Type 0 where
  pub rounds : t.count ≤ round_bound
  pub budget : t.budget ≤ budget_bound

-- the guided run from a layout buffer is the model's: its best layout and its weights stand in the buffers, the rest is told beside them
pub record Ran (l : Lent) (layout : List (List ℕ)) (weights : List ℕ) (count budget : ℕ) (told : Tally) (best : List (List ℕ)) (raised : List ℕ) : Type 0 where
  pub result : guide (job_of l) count budget weights (layout_of layout) ≡ guided_of (layout_of best) told.sum raised told.made told.moves
  pub written : entries_of (layout_of best) ≡ best
