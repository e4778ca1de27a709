-- What the calls' inner functions ask: that the checks before them have passed. Assumes nothing.
use Rattle.std.specs.Prelude.{true, ◌≡◌, ◌*◌, length}
use Rattle.model.specs.Lent.{Lent, job_of, lent_well}
use Rattle.model.specs.Cover.{Sheet, sheet_well}

-- a sheet on which a call is decided by its own causes: the job is well, there is a count for each pixel, and some list of calls gives it
pub record SheetReady (l : Lent) (s : Sheet) : Type 0 where
  pub well : lent_well l ≡ true
  pub full : length s.counts ≡ l.size.rows * l.size.columns
  pub sheet : sheet_well (job_of l) s ≡ true
