-- What a turned pixel set is (document 01, 'Sheet and panels'): the image of the set under document 01's map. The theorem is
-- `turned_exactly` in proofs/Turns. Assumes nothing.
use Rattle.std.specs.Prelude.{true, ◌↔◌, ◌≡◌}
use Rattle.model.specs.Piece.{Point, Shape, turn_point, pixel, turned}
use Rattle.model.specs.declared.Turn.{Turn}
use Rattle.strip_laws.specs.Boxes.{InBox}

-- the point that the turn takes pixel p of the shape's box to
abbrev pub image : Turn → Shape → Point → Point
image t s p = turn_point t s.columns s.rows p

-- a point of the shape's box that the turn takes to q
pub record Origin (t : Turn) (s : Shape) (q : Point) : Type 0 where
  pub from : Point
  pub in_box : InBox s from
  pub goes : image t s from ≡ q

-- the turned shape is the image of the shape: the turn takes the box into the turned box, a point is a pixel exactly when its
-- image is one, and each point of the turned box is the image of a point of the box
pub record TurnedExactly (t : Turn) (s : Shape) : Type 0 where
  pub inside : (p : Point) → InBox s p → InBox (turned t s) (image t s p)
  pub pixels : (p : Point) → InBox s p → (pixel s p ≡ true) ↔ (pixel (turned t s) (image t s p) ≡ true)
  pub onto : (q : Point) → InBox (turned t s) q → Origin t s q
