-- A piece that can be placed anew. Assumes nothing.
use Rattle.std.specs.Prelude.{true, ◌≡◌, ℕ, ◌<◌}
use Rattle.model.specs.Layout.{allowed, inside}
use Rattle.model.specs.Lent.{Lent, job_of}
use Rattle.model.specs.declared.Placement.{Placement}

-- piece i of the job may be placed at p: in a turn allowed to it, inside the sheet
pub record Movable (l : Lent) (i : ℕ) (p : Placement) : Type 0 where
  pub piece : i < l.size.count
  pub turn : allowed (job_of l) i p.turn ≡ true
  pub within : inside (job_of l) i p ≡ true
