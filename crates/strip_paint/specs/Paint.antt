-- What setting pixels leaves in a pixel buffer of a box. Assumes nothing.
use Rattle.std.specs.Prelude.{Bool, true, false, ◌&&◌, List, ◌≡◌, ℕ, ◌+◌, ◌*◌, ◌≤◌, ◌<◌, eqb, length, get_or}
use Rattle.model.specs.Piece.{Point, side_bound}

-- the box has a pixel, its sides are in range, and the buffer has room for it
pub record PaintRoom (columns rows : ℕ) (pixels : List ℕ) : Type 0 where
  pub wide : 0 < columns
  pub high : 0 < rows
  pub columns_small : columns ≤ side_bound
  pub rows_small : rows ≤ side_bound
  pub long : columns * rows ≤ length pixels

-- the two points are one
abbrev pub same_point : Point → Point → Bool
same_point p q = eqb p.x q.x && eqb p.y q.y

-- 1 where the test passes, else what was there
abbrev pub over : Bool → ℕ → ℕ
over true old = 1
over false old = old

-- the points that pass are set, in rows of so many columns, and all else is as before
pub record Painted (columns : ℕ) (test : Point → Bool) (before after : List ℕ) : Type 0 where
  pub long : length after ≡ length before
  pub bytes : (x y : ℕ) → x < columns → get_or after (y * columns + x) 0 ≡ over (test (record { x = x; y = y })) (get_or before (y * columns + x) 0)
