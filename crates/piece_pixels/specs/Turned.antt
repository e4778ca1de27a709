-- A piece as the pixel store holds it, seen in a turn: its pixels and its box. Assumes nothing.
use Rattle.std.specs.Prelude.{List, [], ℕ, ◌+◌, ◌*◌, ◌≤◌, ◌<◌, eqb, length, get_or}
use Rattle.model.specs.Piece.{Shape, turned, side_bound}
use Rattle.model.specs.Lent.{area_bound, entry_columns, entry_rows}
use Rattle.model.specs.declared.Turn.{Turn}
use Rattle.piece_pixels.specs.declared.Sides.{Sides}
use Rattle.piece_pixels.specs.declared.TurnedPiece.{TurnedPiece}

-- the columns and rows of a shape's box
abbrev pub sides_of : Shape → Sides
sides_of s = record { columns = s.columns; rows = s.rows }

-- the turned piece of a table entry
abbrev pub made_of : List (List ℕ) → ℕ → ℕ → Turn → TurnedPiece
made_of table i start t = record { start = start; columns = entry_columns table i; rows = entry_rows table i; turn = t }

-- the box as it lies in the store, before the turn
abbrev pub stored_by : List ℕ → TurnedPiece → Shape
stored_by pixels p =
    record { columns = p.columns; rows = p.rows; has = λ x y. eqb (get_or pixels (p.start + (y * p.columns + x)) 0) 1 }

-- the pixels of the turned piece
abbrev pub shown_by : List ℕ → TurnedPiece → Shape
shown_by pixels p = turned p.turn (stored_by pixels p)

-- (x, y) is a place of the turned box
abbrev pub InTurnedBox : TurnedPiece → ℕ → ℕ → Type 0
InTurnedBox p x y = (x < (shown_by [] p).columns) × (y < (shown_by [] p).rows)

-- the box is within document 01's bounds, and so is where its pixels begin
pub record SmallPiece (p : TurnedPiece) : Type 0 where
  pub start : p.start ≤ area_bound
  pub columns : p.columns ≤ side_bound
  pub rows : p.rows ≤ side_bound

-- such a box, and the store has each of its pixels
pub record PixelStored (pixels : List ℕ) (p : TurnedPiece) : Type 0 where
  pub small : SmallPiece p
  pub held : p.start + p.rows * p.columns ≤ length pixels
