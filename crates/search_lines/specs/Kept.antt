-- Penalty lines of two pieces, both grown by the job's gap, kept for later searches: each slot has a stretch of the store, as long as its line needs,
-- that begins with a key, and a slot whose key is that of two pieces in their turns, a direction and an offset across holds their line behind it.
-- Neither the corners along the line nor the weights play a part in it, so a line stays right when pieces move. The maps that lines are made from are
-- kept beside them, behind the classes of the pieces: one map serves equal pieces. Assumes nothing.
use Rattle.std.specs.Prelude.{List, ◌≡◌, ℕ, ◌+◌, ◌*◌, ◌<◌, ◌≤◌, length, get_or, drop}
use Rattle.model.specs.Piece.{Shape}
use Rattle.model.specs.Layout.{Job}
use Rattle.model.specs.declared.Direction.{Direction}
use Rattle.model.specs.declared.Direction.TheVariants.{Horizontal, Vertical}
use Rattle.model.specs.declared.Turn.{Turn}
use Rattle.overlap_laws.specs.Grown.{grown_piece}
use Rattle.bit_laws.specs.Bit.{length_limit}
use Rattle.search_shapes.specs.Shapes.{shape_number}
use Rattle.search_laws.specs.Lines.{line_places, HoldsLine}
use Rattle.search_maps.specs.Map.{scratch_bound}
use Rattle.search_classes.specs.Classes.{Classes}
use Rattle.search_map_store.specs.Store.{MapsKept}
use Rattle.search_line_store.specs.Store.{line_store_bound, units_of, table_end, begin_of, Stretches}
use Rattle.search_map_laws.specs.Keys.{direction_of, moved_of, standing_of}
use Rattle.search_lines.specs.declared.RunSize.{RunSize}

-- the most bytes that the stretch of a line takes: a key, twice the longest side with the largest gap, and what fills the last unit
abbrev pub line_bound : ℕ
line_bound = 536

-- the most bytes of a store of lines
abbrev pub lines_bound : ℕ
lines_bound = line_store_bound

-- the bytes of a stretch before its line: they hold its key
abbrev pub key_bytes : ℕ
key_bytes = 4

-- the key that the bytes from p on hold
abbrev pub key_at : List ℕ → ℕ → ℕ
key_at xs p = get_or xs p 0 + get_or xs (p + 1) 0 * 256 + get_or xs (p + 2) 0 * 65536 + get_or xs (p + 3) 0 * 16777216

-- the number by which a key tells directions apart
abbrev pub direction_number : Direction → ℕ
direction_number Horizontal = 0
direction_number Vertical = 1

-- the key of two pieces in their turns, a direction and an offset
abbrev pub key_of : Direction → ℕ → ℕ → ℕ → ℕ
key_of d a b offset = direction_number d * 67108864 + a * 262144 + b * 1024 + offset

-- the words of the classes
abbrev pub class_words : ℕ
class_words = 64

-- the slots of a store of maps: for each two pieces, and one with itself, and each turn
abbrev pub map_slots : ℕ
map_slots = 8320

-- the least words of a store of maps: classes, slots, the end, and room to make every map
abbrev pub least_maps : ℕ
least_maps = class_words + map_slots + 1 + scratch_bound

-- the first words are the classes of the job's pieces; the others are a store that keeps maps of the job, and has room to make every one of them
pub record MapsReady (j : Job) (maps : List ℕ) : Type 0 where
  pub classes : Classes j maps
  pub kept : MapsKept map_slots direction_of (moved_of j) (standing_of j) (drop class_words maps)
  pub room : least_maps ≤ length maps
  pub short : length maps < length_limit

-- the units from a place on hold the key's bytes and the line behind them
abbrev pub LineIn : Direction → Shape → Shape → ℕ → List ℕ → ℕ → ℕ → Type 0
LineIn d s t offset lines at units = (key_bytes + line_places d s t ≤ units * 8) × HoldsLine d s t offset lines (at + key_bytes)

-- each slot that has a stretch holds the line that its key names; the maps are ready for more
pub record LinesKept (j : Job) (r : RunSize) (lines maps : List ℕ) : Type 0 where
  pub ready : MapsReady j maps
  pub some : 0 < r.slots
  pub stretches : Stretches r.slots lines
  pub holds : (m i k : ℕ) (t u : Turn) (d : Direction) (offset : ℕ) → m < r.slots → i < j.size.count → k < j.size.count → offset < 1024
      → 0 < units_of lines m → key_at lines (begin_of r.slots lines m) ≡ key_of d (shape_number i t) (shape_number k u) offset
      → LineIn d (grown_piece j i t) (grown_piece j k u) offset lines (begin_of r.slots lines m) (units_of lines m)

-- a store of lines as a run has it: room for the longest line behind the table of slots, and no more bytes than a store has
pub record LinesFit (r : RunSize) (lines : List ℕ) : Type 0 where
  pub room : table_end r.slots + line_bound ≤ length lines
  pub fits : length lines ≤ lines_bound
