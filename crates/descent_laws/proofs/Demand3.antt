-- Demand 3, whole: one claim about whole runs, from the given layout to the end. What the words mean is in specs/Claims; why it is
-- true is in Descent and Guided. Assumes nothing.
use Rattle.list_laws.proofs.Kit.{List, ℕ}
use Rattle.model.specs.Layout.{Job, Layout}
use Rattle.descent_laws.specs.Claims.{Demand3, ValidWeights, ValidLayout}
use Rattle.descent_laws.proofs.Order.{trials_claims}
use Rattle.descent_laws.proofs.Descent.{descent_claims}
use Rattle.descent_laws.proofs.Guided.{guided_claims}

-- demand 3 holds for every job, every valid layout and all valid weights
pub demand3 : (j : Job) (ws : List ℕ) (v : Layout) → ValidWeights j ws → ValidLayout j v → Demand3 j ws v
demand3 j ws v weights layout =
    record {
      trials_listed = trials_claims j;
      descents = λ budget. descent_claims j ws budget v weights layout;
      guided_runs = λ K budget. guided_claims j ws K budget v weights layout;
    }
