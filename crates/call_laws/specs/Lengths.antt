-- What the used length is (document 02, point 1). The theorem is `used_given` in proofs/Lengths. Assumes nothing.
use Rattle.std.specs.Prelude.{◌↔◌, ◌≡◌, ℕ, ◌+◌, ◌<◌, ◌≤◌}
use Rattle.model.specs.Layout.{Job, Layout, place_of, shape_in, corner_in, right_end, rightmost, used_length}

-- pieces below n, not always two: the right end of `last` less the corner x of `first` is m
pub record Spanned (j : Job) (v : Layout) (n m : ℕ) : Type 0 where
  pub last : ℕ
  pub first : ℕ
  pub last_below : last < n
  pub first_below : first < n
  pub is : right_end j v last ≡ (corner_in v first).x + m

-- a piece below n whose corner x is 0
pub record AtEdge (v : Layout) (n : ℕ) : Type 0 where
  pub piece : ℕ
  pub below : piece < n
  pub is : (corner_in v piece).x ≡ 0

-- the pieces below n lie in the second layout in the same turns as in the first, each further right by b columns less a
pub record Shifted (n : ℕ) (v v' : Layout) (a b : ℕ) : Type 0 where
  pub turns : (i : ℕ) → i < n → (place_of v' i).turn ≡ (place_of v i).turn
  pub columns : (i : ℕ) → i < n → (corner_in v' i).x + a ≡ (corner_in v i).x + b

-- what a used length that is given means
pub record UsedClaims (j : Job) (v : Layout) (used : ℕ) : Type 0 where
  -- no piece's right end less any piece's corner x is larger, and for some it is this
  pub at_most : (i k : ℕ) → i < j.size.count → k < j.size.count → right_end j v i ≤ (corner_in v k).x + used
  pub attained : Spanned j v j.size.count used
  -- it is at least every piece's columns, and those of a piece alone
  pub holds_each : (i : ℕ) → i < j.size.count → (shape_in j v i).columns ≤ used
  pub of_one : j.size.count ≡ 1 → used ≡ (shape_in j v 0).columns
  -- it is at most the largest right end, and this exactly when some piece has corner x 0
  pub at_most_end : used ≤ rightmost j v j.size.count
  pub from_edge : (used ≡ rightmost j v j.size.count) ↔ AtEdge v j.size.count
  -- shifting every piece by the same columns, to the right or to the left, leaves it as it is
  pub shifting : (v' : Layout) (a b : ℕ) → Shifted j.size.count v v' a b → used_length j v' ≡ used
  -- it is no longer than the sheet
  pub within : used ≤ j.size.columns
