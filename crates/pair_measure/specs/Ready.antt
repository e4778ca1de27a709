-- A placed piece that is ready to be measured: a checked table entry, and a corner within reach of every sheet. Two of one job have
-- few strips together. Assumes nothing.
use Rattle.std.specs.Prelude.{List, ℕ, ◌+◌, ◌*◌, ◌<◌, ◌≤◌}
use Rattle.model.specs.Lent.{pixel_start, entry_area, area_bound, piece_bound}
use Rattle.model.specs.declared.Placement.{Placement}
use Rattle.job_laws.specs.Entries.{EntryAt}

pub record MeasureReady (table : List (List ℕ)) (i : ℕ) (p : Placement) : Type 0 where
  pub entry : EntryAt table i (pixel_start table i)
  pub few : i ≤ piece_bound
  pub x : p.x.0 < 16384
  pub y : p.y.0 < 16384

-- the boxes of two pieces together have no more pixels than those of a job
abbrev pub Together : List (List ℕ) → ℕ → ℕ → Type 0
Together table i k = entry_area table i + entry_area table k ≤ area_bound

-- a store of n strips has room for those of both along a direction: strips of a line do not touch, so twice their number is at most the line's
-- pixels and one more, and both boxes have at most 510 lines
abbrev pub Roomy : List (List ℕ) → ℕ → ℕ → ℕ → Type 0
Roomy table i k n = entry_area table i + entry_area table k + 510 ≤ 2 * n

-- room for any two pieces of a job, whose boxes have at most 65,536 pixels
abbrev pub pair_room : ℕ
pair_room = 33023

-- room for small ones
abbrev pub small_room : ℕ
small_room = 4096
