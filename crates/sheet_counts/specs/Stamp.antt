-- How the counts move while a piece is laid, withdrawn or marked: row by row of its turned box, column by column in a row. What the whole
-- comes to stands in the sheet's definitions (model, Cover); proofs/ has the law between the two. Assumes nothing.
use Rattle.std.specs.Prelude.{Bool, true, false, List, ℕ, zero, suc, ◌+◌, ◌-◌, ◌*◌, ◌<◌, ◌≤◌, ltb, get_or, set}
use Rattle.model.specs.Layout.{Job}
use Rattle.model.specs.Cover.{map_from, covers_pixel}
use Rattle.model.specs.declared.Placement.{Placement}
use Rattle.model.specs.Lent.{column_bound}
use Rattle.piece_pixels.specs.Turned.{shown_by, InTurnedBox}
use Rattle.piece_pixels.specs.declared.TurnedPiece.{TurnedPiece}
use Rattle.sheet_counts.specs.declared.Change.{Change}
use Rattle.sheet_counts.specs.declared.Change.TheVariants.{OneMore, OneLess, OwnedBy}

-- the count of a pixel, which the piece covers or not, after a change; a byte's last count stays
abbrev pub moved : Change → Bool → ℕ → ℕ
moved change false c = c
moved OneMore true c = elim (ltb c 255) [ true ↦ c + 1 | false ↦ c ]
moved OneLess true c = c - 1
moved (OwnedBy k) true c = k

-- the counts after the change by piece i at a placement
abbrev pub moved_by : Change → Job → ℕ → Placement → List ℕ → List ℕ
moved_by change j i p cs = map_from (λ k c. moved change (covers_pixel j i p k) c) 0 cs

-- the counts have room for so many rows of so many columns from the number `first` on, and these are places of the turned box
pub record StampRoom (b : TurnedPiece) (first sheet width height room : ℕ) : Type 0 where
  pub places : (x y : ℕ) → x < width → y < height → InTurnedBox b x y
  pub sheets : sheet ≤ column_bound
  pub tall : height ≤ column_bound
  pub rows : (d : ℕ) → d < height → first + d * sheet + width ≤ room

-- the turned piece has the pixel (x, y)
abbrev pub on_at : List ℕ → TurnedPiece → ℕ → ℕ → Bool
on_at pixels b y x = (shown_by pixels b).has x y

-- the counts after the next `left` columns of a row, from x on, whose first count has the number `from`
unfoldable pub moved_run : Change → (ℕ → Bool) → ℕ → List ℕ → ℕ → ℕ → List ℕ
moved_run change f from cs x zero = cs
moved_run change f from cs x (suc left) = moved_run change f from (set cs (from + x) (moved change (f x) (get_or cs (from + x) 0))) (suc x) left

-- the counts after the next `left` rows, from y on, of so many columns each; the next row's first count has the number `from`
unfoldable pub moved_rows : Change → (ℕ → ℕ → Bool) → ℕ → ℕ → List ℕ → ℕ → ℕ → ℕ → List ℕ
moved_rows change f sheet width cs from y zero = cs
moved_rows change f sheet width cs from y (suc left) =
    moved_rows change f sheet width (moved_run change (f y) from cs 0 width) (from + sheet) (suc y) left
