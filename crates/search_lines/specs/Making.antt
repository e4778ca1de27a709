-- What the functions over the store of kept lines need and do. Assumes nothing.
use Rattle.std.specs.Prelude.{true, List, ◌≡◌, ℕ, ◌+◌, ◌-◌, ◌*◌, ◌<◌, ◌≤◌, length, get_or}
use Rattle.model.specs.Piece.{Shape}
use Rattle.model.specs.Layout.{Job}
use Rattle.model.specs.Lent.{Lent, job_of, lent_well, piece_bound}
use Rattle.model.specs.declared.Direction.{Direction}
use Rattle.model.specs.declared.Direction.TheVariants.{Horizontal}
use Rattle.overlap_laws.specs.Grown.{grown_piece}
use Rattle.search_shapes.specs.Shapes.{shape_number, Shapes}
use Rattle.search_lines.specs.declared.Two.{Two}
use Rattle.search_laws.specs.Lines.{middle, line_places, HoldsLine}
use Rattle.search_map_store.specs.Store.{MapAt}
use Rattle.search_map_laws.specs.Keys.{map_key}
use Rattle.search_map_laws.specs.Boxes.{ShortTogether}
use Rattle.search_lines.specs.Kept.{line_bound, key_of, key_at, key_bytes, MapsReady}

-- the two pieces' shapes, grown by the gap
abbrev pub moved_shape : Lent → Two → Shape
moved_shape l two = grown_piece (job_of l) two.moved two.moved_turn

abbrev pub standing_shape : Lent → Two → Shape
standing_shape l two = grown_piece (job_of l) two.standing two.standing_turn

-- their key, in a direction
abbrev pub key_of_two : Direction → Two → ℕ
key_of_two d two = key_of d (shape_number two.moved two.moved_turn) (shape_number two.standing two.standing_turn) two.offset

-- the key of their map
abbrev pub map_key_of_two : Two → ℕ
map_key_of_two two = map_key (shape_number two.moved two.moved_turn) (shape_number two.standing two.standing_turn)

-- the two with their parts exchanged: what moved stands, at the mirrored offset
abbrev pub exchanged_two : Two → Two
exchanged_two two =
    record {
      moved = two.standing;
      moved_turn = two.standing_turn;
      standing = two.moved;
      standing_turn = two.moved_turn;
      offset = middle + middle - two.offset;
    }

-- the bytes of a line backwards
pub record Backwards (xs ys : List ℕ) : Type 0 where
  pub same : length ys ≡ length xs
  pub each : (k : ℕ) → k < length xs → get_or ys k 0 ≡ get_or xs (length xs - 1 - k) 0

-- numbers that a key has room for
pub record SmallTwo (two : Two) : Type 0 where
  pub moved : two.moved < piece_bound
  pub standing : two.standing < piece_bound
  pub offset : two.offset < 1024

-- two pieces of a job that passes its check, short together as two different ones are, and the strips of all its pieces along rows
pub record Asked (l : Lent) (strips : List (List ℕ)) (starts : List ℕ) (two : Two) : Type 0 where
  pub well : lent_well l ≡ true
  pub shapes : Shapes Horizontal (job_of l) strips starts
  pub moved : two.moved < l.size.count
  pub standing : two.standing < l.size.count
  pub offset : two.offset < 1024
  pub small : ShortTogether (moved_shape l two) (standing_shape l two)

-- the map of two shapes stands from r on, and the store is as ready as it was
pub record MapFound (j : Job) (s t : Shape) (old new : List ℕ) (r : ℕ) : Type 0 where
  pub same : length new ≡ length old
  pub ready : MapsReady j new
  pub map : MapAt Horizontal s t new r (length new)

-- the line stands from `at` on, and outside it nothing is written
pub record LineMade (d : Direction) (s t : Shape) (offset : ℕ) (old : List ℕ) (at : ℕ) (new : List ℕ) : Type 0 where
  pub same : length new ≡ length old
  pub line : HoldsLine d s t offset new at
  pub before : (k : ℕ) → k < at → get_or new k 0 ≡ get_or old k 0
  pub after : (k : ℕ) → at + line_places d s t ≤ k → get_or new k 0 ≡ get_or old k 0

-- the key stands from `at` on, and outside its bytes nothing is written
pub record KeyPut (key at : ℕ) (old new : List ℕ) : Type 0 where
  pub same : length new ≡ length old
  pub key_is : key_at new at ≡ key
  pub before : (k : ℕ) → k < at → get_or new k 0 ≡ get_or old k 0
  pub after : (k : ℕ) → at + key_bytes ≤ k → get_or new k 0 ≡ get_or old k 0

-- units that hold the key and the line of two shapes, and are no more than those of the longest line
pub record UnitsFit (d : Direction) (s t : Shape) (units : ℕ) : Type 0 where
  pub some : 0 < units
  pub enough : key_bytes + line_places d s t ≤ units * 8
  pub few : units * 8 ≤ line_bound
