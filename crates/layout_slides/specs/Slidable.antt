-- A layout whose pieces can slide along a direction, with their strips in a store, and where one piece blocks another. Assumes nothing.
use Rattle.std.specs.Prelude.{Bool, not, ◌&&◌, List, ◌≢◌, ℕ, ◌-◌, ◌<◌, eqb, length}
use Rattle.model.specs.Piece.{along}
use Rattle.model.specs.Layout.{Job, Layout, place_of, with_place, corner_in, pair_of, pair_conflicts}
use Rattle.model.specs.Compact.{slid_to}
use Rattle.model.specs.Lent.{Lent}
use Rattle.model.specs.declared.Direction.{Direction}
use Rattle.descent_laws.specs.LentLayout.{Laid}
use Rattle.layout_strips.specs.Kept.{span_made, Kept}

-- the strips of every piece of a layout along a direction stand in a store
pub record Drawn (d : Direction) (table : List (List ℕ)) (pixels : List ℕ) (es store spans : List (List ℕ)) : Type 0 where
  pub kept : Kept d table pixels es store spans
  pub all : (i : ℕ) → i < length es → span_made spans i ≢ 0

-- a checked job and a valid layout of it, with the strips of all pieces along a direction
pub record Slidable (d : Direction) (l : Lent) (es store spans : List (List ℕ)) : Type 0 where
  pub laid : Laid l es
  pub drawn : Drawn d l.table l.pixels es store spans

-- piece i, slid by m pixels and one more towards 0 along the direction, conflicts with piece k, which is another one
unfoldable pub blocked_by : Direction → Job → Layout → ℕ → ℕ → ℕ → Bool
blocked_by d j v i k m = not (eqb k i) && pair_conflicts j (with_place v i (slid_to d (place_of v i) (along d (corner_in v i) - 1 - m))) (pair_of i k)
