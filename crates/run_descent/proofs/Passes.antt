-- A descent under way: what holds before each pass of its loop. Assumes nothing.
use Rattle.list_laws.proofs.Kit.{◌≡◌, sym, List, ◌+◌, ◌-◌, ℕ, add-one, get_or, length}
use Rattle.model.specs.Layout.{Layout}
use Rattle.model.specs.Lent.{Lent, job_of}
use Rattle.model.specs.Buffer.{layout_of}
use Rattle.model.specs.Descent.{Trial, Progress, Attempt, moved, quiet, proceed, no_trial, step, trials}
use Rattle.search_laws.proofs.Loop.{Underway}
use Rattle.search_lines.specs.declared.RunSize.{RunSize}
use Rattle.search_beside.specs.Ready.{LinesReady}
use Rattle.run_step.specs.Ready.{LaidOut}
use Rattle.run_step.specs.Steps.{standing_as}
use Rattle.run_step.specs.declared.DescentState.{DescentState}

-- a trial is one more, whatever it came to
one_made : (count : ℕ) (s : Progress) (t : Attempt) → (proceed count s t).made ≡ s.made + 1
one_made count s (moved w) = sym (add-one s.made)
one_made count s quiet = sym (add-one s.made)

-- a step makes one trial
pub step_made : (sum : Layout → ℕ) (try : Layout → Trial → Attempt) (ks : List Trial) (s : Progress) → (step sum try ks s).made ≡ s.made + 1
step_made sum try ks s = one_made (length ks) s (try s.layout (get_or ks s.next no_trial))

-- ── what holds before each pass of the code's loop ──

pub record Going (l : Lent) (r : RunSize) (strips : List (List ℕ)) (starts ws : List ℕ) (budget : ℕ) (v : Layout) (s : DescentState)
    (layout : List (List ℕ)) (penalties lines maps : List ℕ) : Type 0 where
  pub underway : Underway (job_of l) ws (trials (job_of l)) budget v (budget - s.made) (standing_as (layout_of layout) s) s.sum
  pub laid : LaidOut l layout penalties
  pub ready : LinesReady l r strips starts lines maps
