-- Document 01, 'Strips' and demand 2: pixels become strips and strips the same pixels again. Assumes nothing.
use Rattle.std.specs.Prelude.{true, List, ◌≡◌, ℕ, ◌*◌, ◌≤◌, length}
use Rattle.model.specs.Piece.{Shape, side_bound}
use Rattle.model.specs.Lent.{up_to}
use Rattle.model.specs.Buffer.{bytes_of, filled}
use Rattle.model.specs.declared.Direction.{Direction}
use Rattle.call_laws.specs.Rebuilding.{PieceOf}

-- where the strips are those of a set in a box with sides from 1 to 255, and the buffer has room for it, that set's pixels stand in
-- the buffer afterwards
abbrev pub Again : Direction → ℕ → ℕ → List (List ℕ) → List ℕ → List ℕ → Type 0
Again d l w es before after =
    (s : Shape) → PieceOf d l w es s → up_to side_bound l ≡ true → up_to side_bound w ≡ true → l * w ≤ length before
    → after ≡ filled (bytes_of s) before
