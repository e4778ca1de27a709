-- What a line made from a map holds. Assumes nothing.
use Rattle.std.specs.Prelude.{false, List, ◌⊎◌, ◌≡◌, ℕ, ◌+◌, ◌*◌, ◌<◌, ◌≤◌, length, get_or}
use Rattle.model.specs.Piece.{Shape}
use Rattle.model.specs.declared.Direction.{Direction}
use Rattle.model.specs.declared.Direction.TheVariants.{Horizontal, Vertical}
use Rattle.overlap_laws.specs.Grown.{wide_bound}
use Rattle.search_laws.specs.Lines.{line_places, HoldsLine}
use Rattle.bit_laws.specs.Bit.{bit_in, length_limit}
use Rattle.search_maps.specs.declared.Sides.{Sides}
use Rattle.search_maps.specs.Map.{columns_of, rows_of, row_width, map_words}
use Rattle.search_peel.specs.Peel.{EndsBy, PlaceDone}

-- within the reach a side of each place of the row is clear, and all that is read up to it lies in the map
pub record RowReaches (ws : List ℕ) (w p places : ℕ) : Type 0 where
  pub reach : ℕ
  pub wide : 1 ≤ w
  pub short : reach < 256
  pub low : reach * w ≤ p
  pub high : p + places + reach * w + 128 ≤ length ws * 64
  pub room : length ws < length_limit
  pub ends : (x : ℕ) → x < places → EndsBy ws w (p + x) reach

-- each place of the row is done
pub record RowDone (ws : List ℕ) (w p places : ℕ) (xs ys : List ℕ) : Type 0 where
  pub same : length ys ≡ length xs
  pub each : (x : ℕ) → x < places → PlaceDone ws w (p + x) (get_or xs x 0) (get_or ys x 0)
  pub after : (k : ℕ) → places ≤ k → get_or ys k 0 ≡ get_or xs k 0

-- a clear row before the cells of a map, one after them, and a clear bit at the end of each row
pub record Bordered (z : Sides) (ws : List ℕ) : Type 0 where
  pub room : map_words z ≤ length ws
  pub short : length ws < length_limit
  pub floor : (x : ℕ) → x < row_width z → bit_in ws x ≡ false
  pub top : (x : ℕ) → x < row_width z → bit_in ws ((rows_of z + 1) * row_width z + x) ≡ false
  pub ends : (y : ℕ) → y ≤ rows_of z → bit_in ws (y * row_width z + columns_of z) ≡ false

-- sides at which every penalty fits a byte: in one of the directions half of the two sides together is below 256, and the boxes part within that
pub record ByteSides (z : Sides) : Type 0 where
  pub moved : z.moved_across ≤ wide_bound
  pub standing : z.standing_across ≤ wide_bound
  pub moved_along : z.moved_along ≤ wide_bound
  pub standing_along : z.standing_along ≤ wide_bound
  pub small : (z.moved_along + z.standing_along ≤ 511) ⊎ (z.moved_across + z.standing_across ≤ 511)

-- the first places of a slice hold the line of s and t, the others what they held
pub record LineOf (d : Direction) (s t : Shape) (offset : ℕ) (old new : List ℕ) : Type 0 where
  pub same : length new ≡ length old
  pub line : HoldsLine d s t offset new 0
  pub after : (k : ℕ) → line_places d s t ≤ k → get_or new k 0 ≡ get_or old k 0

-- how many places a line along the direction has: the cells of a row or of a column of the map along rows
abbrev pub places_of : Direction → Sides → ℕ
places_of Horizontal z = columns_of z
places_of Vertical z = rows_of z
