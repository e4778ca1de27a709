-- Boxes and the pixels in them (document 01, 'Sheet and panels'). Assumes nothing.
use Rattle.std.specs.Prelude.{◌≡◌, ◌<◌}
use Rattle.model.specs.Piece.{Point, Shape, pixel}

-- a point lies in the box
pub record InBox (s : Shape) (p : Point) : Type 0 where
  pub column : p.x < s.columns
  pub row : p.y < s.rows

-- two shapes have the same box and the same pixels
pub record SameShape (s u : Shape) : Type 0 where
  pub columns : s.columns ≡ u.columns
  pub rows : s.rows ≡ u.rows
  pub pixels : (p : Point) → pixel s p ≡ pixel u p
