-- The map of a moved shape and a standing one in a direction. Cell (X, Y) is for the corners at which the moved one's stands at (X, Y), along
-- and across, and the standing one's at the moved one's last pixel: the boxes meet exactly at the cells. It is set exactly where the two
-- share a pixel. Cell (X, Y) stands at bit (Y + 1) * w + X, where w is one more than the cells of a row; all other bits are clear, so
-- every row and column of cells ends at a clear bit on both sides. Assumes nothing.
use Rattle.std.specs.Prelude.{Bool, true, List, ◌≡◌, ℕ, ◌+◌, ◌-◌, ◌*◌, ◌/◌, ◌<◌, ◌≤◌, length}
use Rattle.model.specs.Piece.{Shape, other, point, extent}
use Rattle.model.specs.Strip.{Strip}
use Rattle.model.specs.Overlap.{share}
use Rattle.model.specs.declared.Direction.{Direction}
use Rattle.model.specs.declared.Turn.{Turn}
use Rattle.model.specs.declared.Turn.TheVariants.{Zero, Quarter, Half, ThreeQuarters}
use Rattle.pair_overlap.specs.Meet.{strip_at}
use Rattle.bit_laws.specs.Bit.{bit_in, length_limit}
use Rattle.search_maps.specs.declared.Sides.{Sides}

-- the most pixels along a box side that maps are made for: pieces widened by a gap have room
abbrev pub side_limit : ℕ
side_limit = 271

-- the most that the moved shape is grown by: twice the largest gap
abbrev pub extra_limit : ℕ
extra_limit = 16

-- the words of scratch that are enough for every map
abbrev pub scratch_bound : ℕ
scratch_bound = 20676

-- the words of the largest map
abbrev pub map_bound : ℕ
map_bound = 4601

-- the sides of two shapes
abbrev pub sides_of : Direction → Shape → Shape → Sides
sides_of d s t =
    record { moved_along = extent d s; moved_across = extent (other d) s; standing_along = extent d t; standing_across = extent (other d) t }

-- how many cells a row has, and how many rows of cells there are
abbrev pub columns_of : Sides → ℕ
columns_of z = z.moved_along + z.standing_along - 1

abbrev pub rows_of : Sides → ℕ
rows_of z = z.moved_across + z.standing_across - 1

-- the bits of a row: its cells and one clear bit
abbrev pub row_width : Sides → ℕ
row_width z = z.moved_along + z.standing_along

-- the turn that is half a turn further
abbrev pub opposite : Turn → Turn
opposite Zero = Half
opposite Quarter = ThreeQuarters
opposite Half = Zero
opposite ThreeQuarters = Quarter

-- the words of the moved shape's marks: rows of that width, and a word to spare
abbrev pub mark_words : Sides → ℕ
mark_words z = z.moved_across * row_width z / 64 + 2

-- the words of scratch that the map of two pieces is made with: its marks at each of nine levels, and a few for the first of them to run over
abbrev pub scratch_words : Sides → ℕ
scratch_words z = 9 * mark_words z + 3

-- the words of a map: the rows of cells with a clear one before and after them, and two words to spare
abbrev pub map_words : Sides → ℕ
map_words z = (z.moved_across + z.standing_across + 1) * row_width z / 64 + 3

-- where a cell stands
abbrev pub cell_place : Sides → ℕ → ℕ → ℕ
cell_place z X Y = (Y + 1) * row_width z + X

-- the two share a pixel at a cell
abbrev pub shared_at : Direction → Shape → Shape → ℕ → ℕ → Bool
shared_at d s t X Y = share s (point d X Y) t (point d (extent d s - 1) (extent (other d) s - 1))

-- a cell at a place
pub record CellAt (z : Sides) (p : ℕ) : Type 0 where
  pub X : ℕ
  pub Y : ℕ
  pub column : X < columns_of z
  pub row : Y < rows_of z
  pub place : p ≡ cell_place z X Y

-- the words hold the map of s and t: a cell is set exactly where they share a pixel there, and no other bit is set
pub record MapOf (d : Direction) (s t : Shape) (ws : List ℕ) : Type 0 where
  pub room : map_words (sides_of d s t) ≤ length ws
  pub cells : (X Y : ℕ) → X < columns_of (sides_of d s t) → Y < rows_of (sides_of d s t) → bit_in ws (cell_place (sides_of d s t) X Y) ≡ shared_at d s t X Y
  pub only : (p : ℕ) → p < map_words (sides_of d s t) * 64 → bit_in ws p ≡ true → CellAt (sides_of d s t) p

-- ── what the functions need ──

-- a side that maps are made for
pub record SideFits (n : ℕ) : Type 0 where
  pub low : 1 ≤ n
  pub high : n ≤ side_limit

-- all four sides are such
pub record SidesFit (z : Sides) : Type 0 where
  pub moved_along : SideFits z.moved_along
  pub moved_across : SideFits z.moved_across
  pub standing_along : SideFits z.standing_along
  pub standing_across : SideFits z.standing_across

-- a strip lies in a box
pub record StripIn (along across : ℕ) (e : Strip) : Type 0 where
  pub some : 1 ≤ e.count
  pub within : e.first + e.count ≤ along
  pub line : e.line < across

-- so does every strip of a stretch
pub record StripsIn (along across : ℕ) (es : List (List ℕ)) : Type 0 where
  pub each : (i : ℕ) → i < length es → StripIn along across (strip_at es i)

-- the strips of a moved shape that is to be grown by `extra` lie in the box that it has before
pub record MovedIn (z : Sides) (extra : ℕ) (es : List (List ℕ)) : Type 0 where
  pub few : extra ≤ extra_limit
  pub strips : StripsIn (z.moved_along - extra) (z.moved_across - extra) es

-- a scratch slice has room for a map's levels
pub record ScratchRoom (z : Sides) (n : ℕ) : Type 0 where
  pub enough : scratch_words z ≤ n
  pub short : n < length_limit

-- a slice has room for the map
pub record MapRoom (z : Sides) (n : ℕ) : Type 0 where
  pub enough : map_words z ≤ n
  pub short : n < length_limit
