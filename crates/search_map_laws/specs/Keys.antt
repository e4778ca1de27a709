-- The key under which the map of two pieces in their turns is kept: by the shapes' numbers (search_shapes). All maps are along rows. Assumes nothing.
use Rattle.std.specs.Prelude.{ℕ, ◌+◌, ◌*◌, ◌/◌, ◌%◌}
use Rattle.model.specs.Piece.{Shape}
use Rattle.model.specs.Layout.{Job}
use Rattle.model.specs.declared.Direction.{Direction}
use Rattle.model.specs.declared.Direction.TheVariants.{Horizontal}
use Rattle.overlap_laws.specs.Grown.{grown}
use Rattle.search_shapes.specs.Shapes.{numbered_shape}

-- the key of a moved shape's number and a standing one's: a job has at most 256 shapes, each of 64 pieces in four turns
abbrev pub map_key : ℕ → ℕ → ℕ
map_key a b = a * 256 + b

-- the direction of a key's map
abbrev pub direction_of : ℕ → Direction
direction_of key = Horizontal

-- the pieces of a key in their turns
abbrev pub first_of : Job → ℕ → Shape
first_of j key = numbered_shape j (key / 256)

abbrev pub standing_of : Job → ℕ → Shape
standing_of j key = numbered_shape j (key % 256)

-- the moved one is grown by twice the gap and the standing one not at all: their map is that of both grown by the gap (proofs/Grown, `map_grown`)
abbrev pub moved_of : Job → ℕ → Shape
moved_of j key = grown (j.size.gap + j.size.gap) (first_of j key)
