-- The sums along a line while the pieces are added one after the other. Assumes nothing.
use Rattle.std.specs.Prelude.{List, ◌≡◌, ℕ, ◌+◌, ◌*◌, ◌<◌, ◌≤◌, length, get_or}
use Rattle.model.specs.Bounded.{sum_below}
use Rattle.model.specs.Layout.{Job, Layout}
use Rattle.model.specs.Search.{places}
use Rattle.search_laws.specs.BoundedSearch.{Serves}
use Rattle.search_laws.specs.PieceSum.{weight_between}
use Rattle.search_tracks.specs.declared.Mover.{Mover}
use Rattle.search_tracks.specs.declared.Reach.{Reach}
use Rattle.search_beside.specs.Reading.{mover_penalty}

-- the part of piece k in the sum at coordinate a
abbrev pub part_at : Job → List ℕ → Layout → Mover → ℕ → ℕ → ℕ
part_at j ws v m a k = weight_between j.size.count ws m.piece k * mover_penalty j v m a k

-- how many places the line has
abbrev pub mover_places : Job → Mover → ℕ
mover_places j m = places j m.piece m.turn m.line

-- the sums of the pieces below k: exact below the bound, else at it or above
pub record Summed (j : Job) (ws : List ℕ) (v : Layout) (m : Mover) (bound k : ℕ) (sums : List ℕ) : Type 0 where
  pub long : length sums ≡ mover_places j m
  pub served : (a : ℕ) → a < mover_places j m → Serves bound (sum_below k (part_at j ws v m a)) (get_or sums a 0)
  pub small : (a : ℕ) → get_or sums a 0 ≤ k * 16777216

-- piece k's part is added where it is in reach, the other sums are as they were
pub record PartAdded (j : Job) (ws : List ℕ) (v : Layout) (m : Mover) (k : ℕ) (r : Reach) (before after : List ℕ) : Type 0 where
  pub same : length after ≡ length before
  pub reached : (a : ℕ) → r.low ≤ a → a < r.high → get_or after a 0 ≡ get_or before a 0 + part_at j ws v m a k
  pub below : (a : ℕ) → a < r.low → get_or after a 0 ≡ get_or before a 0
  pub above : (a : ℕ) → r.high ≤ a → get_or after a 0 ≡ get_or before a 0
