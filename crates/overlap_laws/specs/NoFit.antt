-- What a no-fit row or column is (document 01, 'No-fit rows and penalty', with document 02's gap), and between which numbers its offsets lie (document 02,
-- point 5). The theorems are `no_fit_line` and `offset_reached` in proofs/NoFit. Assumes nothing.
use mathlib.Core.List.{List, Memᴰ}
use Rattle.std.specs.Prelude.{◌↔◌, ℕ, ◌+◌, ◌-◌, ◌<◌, ◌≤◌, ℤ, pos, ◌+ℤ◌, ◌≤ℤ◌, ◌<ℤ◌}
use Rattle.std.proofs.Math.IntN.{sub_ℕ, pred_ℤ}
use Rattle.model.specs.Piece.{Shape, side_bound, extent}
use Rattle.model.specs.declared.Direction.{Direction}
use Rattle.model.specs.Overlap.{OffsetRun, no_fit}
use Rattle.strip_laws.specs.Lists.{Pairwise}
use Rattle.overlap_laws.specs.PixelDepth.{PixelOffset}

-- the farthest offset by a gap: 254 without one, 262 with the largest, which is the model's `offset_bound`
abbrev pub offset_reach : ℕ → ℕ
offset_reach g = side_bound - 1 + g

-- a whole number between -n and n
abbrev pub Between : ℕ → ℤ → Type 0
Between n a = (sub_ℕ 0 n ≤ℤ a) × (a ≤ℤ pos n)

-- the offset a lies in a run of the list: first ≤ a < first + count
pub record InOffsetRuns (a : ℤ) (rs : List OffsetRun) : Type 0 where
  pub run : OffsetRun
  pub listed : Memᴰ run rs
  pub low : run.first ≤ℤ a
  pub high : a <ℤ (run.first +ℤ pos run.count)

-- a run is maximal: it is not empty, and neither the number before its first nor the number after its last is an offset
pub record MaximalOffsetRun (g : ℕ) (d : Direction) (s t : Shape) (o : ℤ) (r : OffsetRun) : Type 0 where
  pub some : 0 < r.count
  pub before : ¬ PixelOffset g d s t (pred_ℤ r.first) o
  pub after : ¬ PixelOffset g d s t (r.first +ℤ pos r.count) o

-- a run ends before another begins, with a gap
abbrev pub OffsetRunBefore : OffsetRun → OffsetRun → Type 0
OffsetRunBefore r q = (r.first +ℤ pos r.count) <ℤ q.first

-- what a no-fit line is: its runs list just the offsets at which two pixels are at most g apart, each between -(254 + g) and 254 + g, as is the
-- offset across where one is listed; each run is maximal, and the runs ascend
pub record NoFitLine (g : ℕ) (d : Direction) (s t : Shape) (o : ℤ) (rs : List OffsetRun) : Type 0 where
  pub exactly : (a : ℤ) → InOffsetRuns a rs ↔ PixelOffset g d s t a o
  pub in_range : (a : ℤ) → InOffsetRuns a rs → Between (offset_reach g) a
  pub across_in_range : (a : ℤ) → InOffsetRuns a rs → Between (offset_reach g) o
  pub maximal : (r : OffsetRun) → Memᴰ r rs → MaximalOffsetRun g d s t o r
  pub ascending : Pairwise OffsetRunBefore rs

-- two pieces with sides of at most 255 whose no-fit line at the offset 0 across lists both ends of the range: no narrower one holds
pub record ReachAttained (g : ℕ) (d : Direction) : Type 0 where
  pub first : Shape
  pub second : Shape
  pub first_small : (e : Direction) → extent e first ≤ side_bound
  pub second_small : (e : Direction) → extent e second ≤ side_bound
  pub highest : InOffsetRuns (pos (offset_reach g)) (no_fit g d first second (pos 0))
  pub lowest : InOffsetRuns (sub_ℕ 0 (offset_reach g)) (no_fit g d first second (pos 0))
