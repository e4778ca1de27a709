-- Pieces of the same box and the same pixels. The class of a piece is the number of an equal one, the lowest: what is made of the class's shape is
-- what would be made of the piece's. Which turns are allowed to a piece plays no part. Assumes nothing.
use Rattle.std.specs.Prelude.{List, ℕ, ◌<◌, ◌≤◌, get_or}
use Rattle.model.specs.Layout.{Job}
use Rattle.strip_laws.specs.Boxes.{SameShape}

-- two pieces are equal
abbrev pub Equal : Job → ℕ → ℕ → Type 0
Equal j i k = SameShape (j.piece i).shape (j.piece k).shape

-- word i is the number of a piece equal to piece i, and no higher one
abbrev pub Classes : Job → List ℕ → Type 0
Classes j words = (i : ℕ) → i < j.size.count → (get_or words i 0 ≤ i) × Equal j i (get_or words i 0)
