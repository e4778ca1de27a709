-- Who owns a place of the sheet: what the code of the cut list paints and compares. Assumes nothing.
use Rattle.std.specs.Prelude.{Bool, true, false, ℕ, zero, suc}
use Rattle.model.specs.Piece.{Point, point}
use Rattle.model.specs.Layout.{Job, Layout}
use Rattle.model.specs.Cut.{covers_in}
use Rattle.model.specs.declared.Direction.{Direction}

-- one more than the last number below n that passes, or 0 where none does
abbrev pub last_of : (ℕ → Bool) → ℕ → ℕ
last_of f zero = 0
last_of f (suc n) = elim (f n) [ true ↦ suc n | false ↦ last_of f n ]

-- the owner of a place of the sheet: the number of the piece that lies on it plus 1, or 0 where none does
abbrev pub owner : Job → Layout → Point → ℕ
owner j v p = last_of (λ i. covers_in j v i p) j.size.count

-- the owner of the place before the unit a of line c: 0 before line 0
abbrev pub owner_before : Direction → Job → Layout → ℕ → ℕ → ℕ
owner_before d j v a zero = 0
owner_before d j v a (suc c) = owner j v (point d a c)
