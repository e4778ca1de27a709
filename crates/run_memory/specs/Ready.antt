-- What a run is given. Assumes nothing.
use Rattle.std.specs.Prelude.{List, ◌≡◌, ℕ}
use Rattle.model.specs.Lent.{Lent, job_of}
use Rattle.model.specs.Buffer.{layout_of, entries_of}
use Rattle.descent_laws.specs.Claims.{ValidWeights}
use Rattle.descent_laws.specs.LentLayout.{Laid}

-- what a run is given: a job that passes its check, a buffer that holds a valid layout just as its entries are written, and valid weights
pub record Given (l : Lent) (layout : List (List ℕ)) (ws : List ℕ) : Type 0 where
  pub laid : Laid l layout
  pub written : entries_of (layout_of layout) ≡ layout
  pub weights : ValidWeights (job_of l) ws
