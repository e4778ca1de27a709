-- Penalty lines: the penalties of a moved piece and a standing one at every place of a line. Neither the corners along the line nor the weights
-- play a part in a line, so it stays right when pieces move. Assumes nothing.
use Rattle.std.specs.Prelude.{List, ◌≡◌, ℕ, ◌+◌, ◌-◌, ◌<◌, get_or}
use Rattle.model.specs.Piece.{Shape, side_bound, gap_bound, point, extent}
use Rattle.model.specs.Overlap.{penalty}
use Rattle.model.specs.declared.Direction.{Direction}

-- where the moved piece stands across: an offset of the standing piece is counted from here, so none that matters is below 0
abbrev pub middle : ℕ
middle = side_bound + gap_bound

-- how many places a line has: those at which the boxes meet along it
abbrev pub line_places : Direction → Shape → Shape → ℕ
line_places d s t = extent d s + extent d t - 1

-- the penalty at place k: the moved piece's corner is at k along the line, the standing one's at the moved one's last pixel
unfoldable pub line_penalty : Direction → Shape → Shape → ℕ → ℕ → ℕ
line_penalty d s t offset k = penalty s (point d k middle) t (point d (extent d s - 1) offset)

-- the bytes from `from` on hold the line
abbrev pub HoldsLine : Direction → Shape → Shape → ℕ → List ℕ → ℕ → Type 0
HoldsLine d s t offset lines from = (k : ℕ) → k < line_places d s t → get_or lines (from + k) 0 ≡ line_penalty d s t offset k
