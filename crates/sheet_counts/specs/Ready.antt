-- What `move_piece` asks: that the checks before it have passed. Assumes nothing.
use Rattle.std.specs.Prelude.{true, ◌≡◌, ℕ, ◌*◌, ◌<◌}
use Rattle.model.specs.Layout.{inside}
use Rattle.model.specs.Lent.{Lent, job_of, lent_well}
use Rattle.model.specs.declared.Placement.{Placement}

-- piece i may be laid at the placement or taken off it: the job is well, the piece is one of it, inside, and there is a count for
-- each pixel
pub record StampReady (l : Lent) (i : ℕ) (p : Placement) (room : ℕ) : Type 0 where
  pub well : lent_well l ≡ true
  pub piece : i < l.size.count
  pub within : inside (job_of l) i p ≡ true
  pub full : room ≡ l.size.rows * l.size.columns
