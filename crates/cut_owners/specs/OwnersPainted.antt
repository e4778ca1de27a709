-- The owners of a sheet's pixels, row by row. Assumes nothing.
use Rattle.std.specs.Prelude.{List, ◌≡◌, ℕ, ◌*◌, ◌<◌, length, get_or}
use Rattle.model.specs.Layout.{Job, Layout}
use Rattle.model.specs.Cover.{pixel_at}
use Rattle.cut_laws.specs.Owners.{owner}

-- each byte is the owner of its pixel
pub record OwnersPainted (j : Job) (v : Layout) (os : List ℕ) : Type 0 where
  pub full : length os ≡ j.size.rows * j.size.columns
  pub owners : (k : ℕ) → k < j.size.rows * j.size.columns → get_or os k 0 ≡ owner j v (pixel_at j k)
