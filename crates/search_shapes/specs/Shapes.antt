-- The strips of every piece in every turn, kept in a store with one start for each. Shape number 4 i + t is piece i in turn t, where
-- t is 0, 1, 2, 3 for 0, 90, 180, 270 degrees; its strips stand from start 4 i + t up to the next one. Assumes nothing.
use Rattle.std.specs.Prelude.{List, map, ◌≡◌, ℕ, zero, suc, ◌+◌, ◌*◌, ◌-◌, ◌/◌, ◌%◌, ◌≤◌, ◌<◌, length, get_or, take, drop}
use Rattle.model.specs.Piece.{Shape, extent, side_bound}
use Rattle.model.specs.Strip.{strips}
use Rattle.model.specs.Layout.{Job, turned_piece}
use Rattle.model.specs.Buffer.{strip_entry}
use Rattle.model.specs.declared.Direction.{Direction}
use Rattle.model.specs.declared.Turn.{Turn}
use Rattle.model.specs.declared.Turn.TheVariants.{Zero, Quarter, Half, ThreeQuarters}
use Rattle.descent_laws.specs.Trials.{turn_number}
use Rattle.pair_overlap.specs.Meet.{Ordered}

-- the turn of a number
abbrev pub numbered_turn : ℕ → Turn
numbered_turn zero = Zero
numbered_turn (suc zero) = Quarter
numbered_turn (suc (suc zero)) = Half
numbered_turn (suc (suc (suc n))) = ThreeQuarters

-- the number of a piece in a turn
abbrev pub shape_number : ℕ → Turn → ℕ
shape_number i t = i * 4 + turn_number t

-- the shape of a number
abbrev pub numbered_shape : Job → ℕ → Shape
numbered_shape j k = turned_piece j (k / 4) (numbered_turn (k % 4))

-- the part of a store from start k up to the next one
abbrev pub part : List (List ℕ) → List ℕ → ℕ → List (List ℕ)
part store starts k = take (get_or starts (k + 1) 0 - get_or starts k 0) (drop (get_or starts k 0) store)

-- start k and the next one bound a part of the store
pub record Held (store : List (List ℕ)) (starts : List ℕ) (k : ℕ) : Type 0 where
  pub started : k + 1 < length starts
  pub rising : get_or starts k 0 ≤ get_or starts (k + 1) 0
  pub within : get_or starts (k + 1) 0 ≤ length store

-- that part is the strips of a shape with sides within document 01's bound
pub record ShapeAt (d : Direction) (s : Shape) (store : List (List ℕ)) (starts : List ℕ) (k : ℕ) : Type 0 where
  pub held : Held store starts k
  pub holds : part store starts k ≡ map strip_entry (strips d s)
  pub small : extent d s ≤ side_bound

-- the strips of every piece of the job in every turn
pub record Shapes (d : Direction) (j : Job) (store : List (List ℕ)) (starts : List ℕ) : Type 0 where
  pub at : (i : ℕ) (t : Turn) → i < j.size.count → ShapeAt d (turned_piece j i t) store starts (shape_number i t)

-- a stretch is the strips of a shape, ordered as the overlap of two pieces needs them
pub record StripsOf (d : Direction) (s : Shape) (stretch : List (List ℕ)) : Type 0 where
  pub same : stretch ≡ map strip_entry (strips d s)
  pub ordered : Ordered stretch

-- the strips that a store of every piece in every turn has room for, and its starts: one for each piece in each turn, and the end
abbrev pub store_bound : ℕ
store_bound = 163840

abbrev pub starts_bound : ℕ
starts_bound = 257

-- buffers that hold the shapes of every job
pub record ShapesRoom (store : List (List ℕ)) (starts : List ℕ) : Type 0 where
  pub wide : store_bound ≤ length store
  pub long : starts_bound ≤ length starts
