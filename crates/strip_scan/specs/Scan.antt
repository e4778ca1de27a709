-- The strips of a turned piece from a cell on. Assumes nothing.
use Rattle.std.specs.Prelude.{List, [], ◌∷◌, ◌++◌, map, ◌≡◌, ℕ, zero, suc, ◌+◌, ◌-◌, ◌≤◌, ◌<◌, Option, Some, None}
use Rattle.model.specs.Piece.{Shape, extent, other, cell}
use Rattle.model.specs.Strip.{Strip, strip_of, runs_from, strips_from}
use Rattle.model.specs.declared.Direction.{Direction}
use Rattle.piece_pixels.specs.Turned.{shown_by}
use Rattle.piece_pixels.specs.declared.TurnedPiece.{TurnedPiece}
use Rattle.strip_scan.specs.declared.scan.FoundStrip.{FoundStrip}

-- the turned box's pixels along the direction
abbrev pub turned_side : Direction → TurnedPiece → ℕ
turned_side d p = extent d (shown_by [] p)

-- the strips from cell a of line c on, where c is the first of `left` lines
unfoldable pub strips_in : Direction → Shape → ℕ → ℕ → ℕ → List Strip
strips_in d s c a zero = []
strips_in d s c a (suc left) = map (strip_of c) (runs_from (λ k. cell d s k c) a (extent d s - a) 0) ++ strips_from d s (suc c) left

-- the strips from cell a of line c on
abbrev pub strips_at : Direction → Shape → ℕ → ℕ → List Strip
strips_at d s c a = strips_in d s c a (extent (other d) s - c)

-- a strip is the next from cell a of line c on: it comes first, then those from its end on, and it lies in the box
pub record NextStripIs (d : Direction) (s : Shape) (c a : ℕ) (t : Strip) : Type 0 where
  pub next : strips_at d s c a ≡ t ∷ strips_at d s t.line (t.first + t.count)
  pub within : t.first + t.count ≤ extent d s
  pub line : t.line < extent (other d) s

-- a strip as it is found
abbrev pub found_strip : FoundStrip → Strip
found_strip t = record { line = t.line; first = t.first; count = t.count }

-- what reading on finds, from cell a of line c on
abbrev pub NextIs : Direction → List ℕ → TurnedPiece → ℕ → ℕ → Option FoundStrip → Type 0
NextIs d pixels p c a (Some found) = NextStripIs d (shown_by pixels p) c a (found_strip found)
NextIs d pixels p c a None = strips_at d (shown_by pixels p) c a ≡ []
