-- The penalties of a moving piece and a piece beside its line, and the line that has them. Assumes nothing.
use Rattle.std.specs.Prelude.{true, false, List, ◌≡◌, ℕ, ◌+◌, ◌-◌, ◌<◌, ◌≤◌, length, get_or}
use Rattle.model.specs.Piece.{along, extent, line_direction}
use Rattle.model.specs.Layout.{Job, Layout, corner_in}
use Rattle.overlap_laws.specs.Grown.{grown_piece, grown_in}
use Rattle.search_laws.specs.PieceSum.{penalty_on}
use Rattle.search_laws.specs.Lines.{line_places}
use Rattle.bit_laws.specs.Bit.{bit_at}
use Rattle.search_tracks.specs.declared.Mover.{Mover}

-- the penalty of the mover at coordinate a and piece k
abbrev pub mover_penalty : Job → Layout → Mover → ℕ → ℕ → ℕ
mover_penalty j v m a k = penalty_on j v m.piece m.turn m.line a k

-- piece k has no penalty with the mover at any place
abbrev pub Apart : Job → Layout → Mover → ℕ → Type 0
Apart j v m k = (a : ℕ) → mover_penalty j v m a k ≡ 0

-- a bit for each of the pieces below n, clear only where the piece is apart
pub record NearTold (j : Job) (v : Layout) (m : Mover) (n near : ℕ) : Type 0 where
  pub small : near < 18446744073709551616
  pub few : (k : ℕ) → bit_at near k ≡ true → k < n
  pub apart : (k : ℕ) → k < n → bit_at near k ≡ false → Apart j v m k

-- from place r on the bytes are the penalties of the mover and piece k
pub record LineRead (j : Job) (v : Layout) (m : Mover) (k : ℕ) (lines : List ℕ) (r : ℕ) : Type 0 where
  pub within : r + line_places (line_direction m.line) (grown_piece j m.piece m.turn) (grown_in j v k) ≤ length lines
  pub at : (a c : ℕ) → c < line_places (line_direction m.line) (grown_piece j m.piece m.turn) (grown_in j v k)
      → c + along (line_direction m.line) (corner_in v k) ≡ a + (extent (line_direction m.line) (grown_piece j m.piece m.turn) - 1)
      → get_or lines (r + c) 0 ≡ mover_penalty j v m a k
