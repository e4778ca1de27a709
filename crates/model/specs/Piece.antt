-- Document 01, 'Sheet and panels': pixel sets in a box, their turns, and what is alike along rows and columns.
-- A piece is document 01's panel. Assumes nothing.
use Rattle.std.specs.Prelude.{Bool, ◌&&◌, ℕ, ◌+◌, ◌-◌, ◌/◌, ◌%◌, leb, ltb, eqb}
use Rattle.model.specs.Bounded.{any_below}
use Rattle.model.specs.declared.Turn.{Turn}
use Rattle.model.specs.declared.Turn.TheVariants.{Zero, Quarter, Half, ThreeQuarters}
use Rattle.model.specs.declared.Direction.{Direction}
use Rattle.model.specs.declared.Direction.TheVariants.{Horizontal, Vertical}
use Rattle.model.specs.declared.Line.{Line}
use Rattle.model.specs.declared.Line.TheVariants.{InRow, InColumn}
use Rattle.model.specs.declared.Coordinate.{Coordinate}
use Rattle.model.specs.declared.Coordinate.TheVariants.{AtColumn, AtRow}
use Rattle.model.specs.declared.Placement.{Placement}

-- a pixel's place: column x, row y, both from 0 at the bottom left
pub record Point : Type 0 where
  pub x : ℕ
  pub y : ℕ

-- the most pixels along a box side
abbrev pub side_bound : ℕ
side_bound = 255

-- the largest gap between pieces (document 02, point 4)
abbrev pub gap_bound : ℕ
gap_bound = 8

-- a set of pixels in a box of so many columns and rows; what `has` says outside the box plays no part
pub record Shape : Type 0 where
  pub columns : ℕ
  pub rows : ℕ
  pub has : ℕ → ℕ → Bool

-- (x, y) is a pixel of the set
abbrev pub pixel : Shape → Point → Bool
pixel s p = ltb p.x s.columns && ltb p.y s.rows && s.has p.x p.y

-- ── rows and columns alike ──

-- the other direction
abbrev pub other : Direction → Direction
other Horizontal = Vertical
other Vertical = Horizontal

-- the coordinate that a shift in the direction changes
abbrev pub along : Direction → Point → ℕ
along Horizontal p = p.x
along Vertical p = p.y

-- the coordinate that a shift in the direction leaves: the number of the row or column that is shifted along
abbrev pub across : Direction → Point → ℕ
across Horizontal p = p.y
across Vertical p = p.x

-- the point with the given coordinates along and across
abbrev pub point : Direction → ℕ → ℕ → Point
point Horizontal a c = record { x = a; y = c }
point Vertical a c = record { x = c; y = a }

-- the point shifted by t in the direction
abbrev pub shift : Direction → ℕ → Point → Point
shift d t p = point d (along d p + t) (across d p)

-- the box's pixels along the direction
abbrev pub extent : Direction → Shape → ℕ
extent Horizontal s = s.columns
extent Vertical s = s.rows

-- the pixel with the given coordinates along and across, for coordinates inside the box
abbrev pub cell : Direction → Shape → ℕ → ℕ → Bool
cell Horizontal s a c = s.has a c
cell Vertical s a c = s.has c a

-- the row or column with number c holds a pixel
abbrev pub holds : Direction → Shape → ℕ → Bool
holds d s c = any_below (extent d s) (λ a. cell d s a c)

-- the first and the last line along the direction each hold a pixel
abbrev pub tight_along : Direction → Shape → Bool
tight_along d s = holds d s 0 && holds d s (extent (other d) s - 1)

-- first and last row and column each hold a pixel: the box is not loose
unfoldable pub tight : Shape → Bool
tight s = tight_along Horizontal s && tight_along Vertical s

-- ── turns ──

-- where a counterclockwise turn takes pixel (x, y) of a box of l columns and w rows
unfoldable pub turn_point : Turn → ℕ → ℕ → Point → Point
turn_point Zero l w p = p
turn_point Quarter l w p = record { x = w - 1 - p.y; y = p.x }
turn_point Half l w p = record { x = l - 1 - p.x; y = w - 1 - p.y }
turn_point ThreeQuarters l w p = record { x = p.y; y = l - 1 - p.x }

-- the turned box and set: a pixel is in it exactly where the turn takes a pixel of the set (strip_laws, Turns, `turned_exactly`)
abbrev pub turned : Turn → Shape → Shape
turned Zero s = s
turned Quarter s = record { columns = s.rows; rows = s.columns; has = λ x y. s.has y (s.rows - 1 - x) }
turned Half s = record { columns = s.columns; rows = s.rows; has = λ x y. s.has (s.columns - 1 - x) (s.rows - 1 - y) }
turned ThreeQuarters s = record { columns = s.rows; rows = s.columns; has = λ x y. s.has (s.columns - 1 - y) x }

-- the degrees of a turn, as the texts and buffers write it
abbrev pub degrees : Turn → ℕ
degrees Zero = 0
degrees Quarter = 90
degrees Half = 180
degrees ThreeQuarters = 270

-- a turn's part of the sum o of the allowed turns: 1, 2, 4, 8
abbrev pub turn_bit : Turn → ℕ
turn_bit Zero = 1
turn_bit Quarter = 2
turn_bit Half = 4
turn_bit ThreeQuarters = 8

-- a piece: its pixels and the sum o of the turns allowed to it
pub record Piece : Type 0 where
  pub shape : Shape
  pub turns : ℕ
  pub locked : Bool

-- the sum o allows the turn
unfoldable pub allows : ℕ → Turn → Bool
allows o t = eqb (o / turn_bit t % 2) 1

-- ── placements ──

-- a placement's corner
abbrev pub corner : Placement → Point
corner p = record { x = p.x.0; y = p.y.0 }

-- a placed shape: the pixels of s, its box's bottom-left pixel at v, cover the sheet's pixel p
abbrev pub covers : Shape → Point → Point → Bool
covers s v p = leb v.x p.x && leb v.y p.y && pixel s (record { x = p.x - v.x; y = p.y - v.y })

-- the direction of a search on the line
abbrev pub line_direction : Line → Direction
line_direction (InRow r) = Horizontal
line_direction (InColumn c) = Vertical

-- the number of the held row or column
abbrev pub held : Line → ℕ
held (InRow r) = r.0
held (InColumn c) = c.0

-- the placement on the line with the given turn and coordinate
abbrev pub on_line : Line → Turn → ℕ → Placement
on_line (InRow r) t a = record { turn = t; x = record { 0 = a }; y = r }
on_line (InColumn c) t a = record { turn = t; x = c; y = record { 0 = a } }

-- a coordinate of the line: a column on a held row, a row on a held column
abbrev pub coordinate_on : Line → ℕ → Coordinate
coordinate_on (InRow r) a = AtColumn (record { 0 = a })
coordinate_on (InColumn c) a = AtRow (record { 0 = a })

-- the number that a coordinate stands for: that of its column or of its row
abbrev pub coordinate_number : Coordinate → ℕ
coordinate_number (AtColumn x) = x.0
coordinate_number (AtRow y) = y.0

-- the line in the direction through a placement's corner
abbrev pub line_through : Direction → Placement → Line
line_through Horizontal p = InRow p.y
line_through Vertical p = InColumn p.x
