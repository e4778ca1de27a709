-- What rebuilding gives (document 01, 'Strips'). The theorems are in proofs/Rebuilding. Assumes nothing.
use Rattle.std.specs.Prelude.{true, List, map, ◌≡◌, ℕ}
use Rattle.model.specs.Piece.{Shape, tight}
use Rattle.model.specs.Strip.{strips}
use Rattle.model.specs.Buffer.{strip_entry, bytes_of}
use Rattle.model.specs.declared.Direction.{Direction}
use Rattle.model.specs.Refusal.{given}
use Rattle.model.specs.Calls.{rebuild_call}
use Rattle.strip_laws.specs.Boxes.{SameShape}

-- a piece of the box, whose strips stand in the lent entries
pub record PieceOf (d : Direction) (l w : ℕ) (es : List (List ℕ)) (s : Shape) : Type 0 where
  pub columns : s.columns ≡ l
  pub rows : s.rows ≡ w
  pub is_tight : tight s ≡ true
  pub are : map strip_entry (strips d s) ≡ es

-- what rebuilding gives: a piece of the box that has the strips, the only one, and so its bytes are those of each piece that has them
pub record RebuildClaims (d : Direction) (l w : ℕ) (es : List (List ℕ)) (s : Shape) : Type 0 where
  pub piece : PieceOf d l w es s
  pub only : (u : Shape) → PieceOf d l w es u → SameShape s u
  pub bytes : (u : Shape) → PieceOf d l w es u → bytes_of s ≡ bytes_of u

-- lent strips are rebuilt as the piece s
pub record RebuiltAs (d : Direction) (es : List (List ℕ)) (s : Shape) (room : ℕ) : Type 0 where
  pub shape : Shape
  pub gives : rebuild_call d s.columns s.rows es room ≡ given shape
  pub same : SameShape shape s
  pub bytes : bytes_of shape ≡ bytes_of s
