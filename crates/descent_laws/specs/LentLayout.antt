-- A layout as it is lent to a call beside its job (document 01, 'When a call says no'): what holds where no cause of refusal is there.
-- Assumes nothing.
use Rattle.std.specs.Prelude.{true, List, ◌≡◌, ℕ, length}
use Rattle.model.specs.Lent.{Lent, job_of, lent_well}
use Rattle.model.specs.Buffer.{layout_of}
use Rattle.descent_laws.specs.Claims.{ValidLayout}

-- a job that passes its check, and a layout buffer of its length that holds a valid layout of it
pub record Laid (l : Lent) (layout : List (List ℕ)) : Type 0 where
  pub well : lent_well l ≡ true
  pub whole : length layout ≡ l.size.count
  pub valid : ValidLayout (job_of l) (layout_of layout)
