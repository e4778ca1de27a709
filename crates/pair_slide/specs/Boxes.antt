-- The box of a placed piece as a direction sees it (document 02, point 7). Assumes nothing.
use Rattle.std.specs.Prelude.{◌≡◌, ◌<◌, ◌≤◌}
use Rattle.model.specs.Piece.{Point, Shape, extent, other, side_bound}
use Rattle.model.specs.declared.Direction.{Direction}
use Rattle.pair_overlap.specs.Seen.{seen}
use Rattle.pair_slide.specs.declared.PlacedBox.{PlacedBox}

-- a box of a piece whose corner is within reach of every sheet, some 4,096 columns and 512 rows
pub record OnSheet (b : PlacedBox) : Type 0 where
  pub along : b.corner.along < 8192
  pub across : b.corner.across < 8192
  pub length : b.length ≤ side_bound
  pub lines : b.lines ≤ side_bound

-- the box of the shape s at the corner u
pub record BoxOf (d : Direction) (s : Shape) (u : Point) (b : PlacedBox) : Type 0 where
  pub corner : b.corner ≡ seen d u
  pub length : b.length ≡ extent d s
  pub lines : b.lines ≡ extent (other d) s
