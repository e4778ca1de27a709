-- A pixel set and a corner as the functions over strips take them. Assumes nothing.
use Rattle.std.specs.Prelude.{List, map, ℕ}
use Rattle.model.specs.Piece.{Point, Shape, along, across}
use Rattle.model.specs.Strip.{strips}
use Rattle.model.specs.Buffer.{strip_entry}
use Rattle.model.specs.declared.Direction.{Direction}
use Rattle.pair_overlap.specs.declared.Corner.{Corner}

-- a set's strips as a lent stretch
abbrev pub entries : Direction → Shape → List (List ℕ)
entries d s = map strip_entry (strips d s)

-- a corner as the direction sees it
abbrev pub seen : Direction → Point → Corner
seen d u = record { along = along d u; across = across d u }
