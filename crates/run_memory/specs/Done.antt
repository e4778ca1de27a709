-- What a run comes to by its plan, and the range of a plan's numbers. Assumes nothing.
use Rattle.std.specs.Prelude.{List, ◌≡◌, ℕ, ◌≤◌}
use Rattle.model.specs.Lent.{Lent, job_of}
use Rattle.model.specs.Buffer.{layout_of, entries_of}
use Rattle.model.specs.Descent.{descend}
use Rattle.model.specs.Calls.{budget_bound}
use Rattle.run_descent.specs.declared.Ended.{Ended}
use Rattle.run_descent.specs.Descents.{descent_of}
use Rattle.run_rounds.specs.declared.Terms.{Terms}
use Rattle.run_rounds.specs.declared.Tally.{Tally}
use Rattle.run_rounds.specs.Rounds.{Ran}
use Rattle.run_memory.specs.declared.memory.Alone.{Alone}

-- the descent from a layout buffer is the model's: its layout stands in the buffer, the rest is told beside it
pub record Descended (l : Lent) (layout : List (List ℕ)) (weights : List ℕ) (budget : ℕ) (ended : Ended) (new : List (List ℕ)) : Type 0 where
  pub result : descend (job_of l) weights budget (layout_of layout) ≡ descent_of ended (layout_of new)
  pub written : entries_of (layout_of new) ≡ new

-- the budget of a descent alone is in document 01's range
abbrev pub AloneInRange : Alone → Type 0
AloneInRange plan = plan.budget ≤ budget_bound

-- a descent alone is done, with the plan's budget
abbrev pub AloneDone : Lent → List (List ℕ) → List ℕ → Alone → Ended → List (List ℕ) → List ℕ → Type 0
AloneDone l layout weights plan ended new raised = Descended l layout weights plan.budget ended new

-- the rounds are done, on their terms
abbrev pub RoundsDone : Lent → List (List ℕ) → List ℕ → Terms → Tally → List (List ℕ) → List ℕ → Type 0
RoundsDone l layout weights terms told new raised = Ran l layout weights terms.count terms.budget told new raised
