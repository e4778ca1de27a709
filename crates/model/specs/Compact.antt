-- Document 02, point 7: the pieces of a layout pushed left and down. Free pieces in number order slide left pixel by pixel, then down likewise,
-- until neither moves them; passes repeat until one moves nothing. Assumes nothing.
use Rattle.std.specs.Prelude.{Bool, true, false, not, ◌&&◌, ℕ, zero, suc, ◌+◌, ◌-◌, eqb, length}
use Rattle.model.specs.Bounded.{any_below, sum_below}
use Rattle.model.specs.Piece.{along, on_line, line_through}
use Rattle.model.specs.Layout.{Job, Layout, is_locked, inside, place_of, with_place, corner_in, pair_of, pair_conflicts}
use Rattle.model.specs.declared.Direction.{Direction}
use Rattle.model.specs.declared.Direction.TheVariants.{Horizontal, Vertical}
use Rattle.model.specs.declared.Placement.{Placement}

-- a layout that pieces have slid to, and the pixels that they slid
pub record Compacted : Type 0 where
  pub layout : Layout
  pub slid : ℕ

-- nothing slid
abbrev pub at_rest : Layout → Compacted
at_rest v = record { layout = v; slid = 0 }

-- what slides next goes on from the layout at which it finds the pieces, and its pixels are added
abbrev pub then_slides : Compacted → (Layout → Compacted) → Compacted
then_slides c next = record { layout = (next c.layout).layout; slid = c.slid + (next c.layout).slid }

-- ── one slide ──

-- the placement in the same turn and the same row (horizontal) or column (vertical), with its corner at the coordinate a there
abbrev pub slid_to : Direction → Placement → ℕ → Placement
slid_to d p a = on_line (line_through d p) p.turn a

-- piece i conflicts with some other piece
unfoldable pub conflicts_with_some : Job → Layout → ℕ → Bool
conflicts_with_some j v i = any_below j.size.count (λ k. not (eqb k i) && pair_conflicts j v (pair_of i k))

-- piece i, moved along the direction to the coordinate a, is inside and conflicts with none
unfoldable pub fits_at : Direction → Job → Layout → ℕ → ℕ → Bool
fits_at d j v i a =
    inside j i (slid_to d (place_of v i) a) && not (conflicts_with_some j (with_place v i (slid_to d (place_of v i) a)) i)

-- the pixels that are slid from the coordinate a towards 0, pixel by pixel, while the next coordinate fits
unfoldable pub pixels_slid : (ℕ → Bool) → ℕ → ℕ
pixels_slid fits zero = 0
pixels_slid fits (suc a) = elim (fits a) [ true ↦ suc (pixels_slid fits a) | false ↦ 0 ]

-- how far piece i slides: left along its row, or down along its column
unfoldable pub slide_of : Direction → Job → ℕ → Layout → ℕ
slide_of d j i v = pixels_slid (fits_at d j v i) (along d (corner_in v i))

-- piece i slides so far
unfoldable pub slide : Direction → Job → ℕ → Layout → Compacted
slide d j i v =
    record {
      layout = with_place v i (slid_to d (place_of v i) (along d (corner_in v i) - slide_of d j i v));
      slid = slide_of d j i v;
    }

-- ── until nothing moves ──

-- the same over and over until it slides nothing, at most so many times
unfoldable pub until_still : (Layout → Compacted) → ℕ → Layout → Compacted
until_still push zero v = at_rest v
until_still push (suc times) v = elim (eqb (push v).slid 0) [ true ↦ at_rest v | false ↦ then_slides (push v) (until_still push times) ]

-- the sum of all corner coordinates
unfoldable pub corner_sum : Layout → ℕ
corner_sum v = sum_below (length v) (λ i. (corner_in v i).x + (corner_in v i).y)

-- until it slides nothing. Whatever slides lowers the sum of all corner coordinates, so that the times do not run out
abbrev pub until_at_rest : (Layout → Compacted) → Layout → Compacted
until_at_rest push v = until_still push (suc (corner_sum v)) v

-- piece i slides left, then down
unfoldable pub left_then_down : Job → ℕ → Layout → Compacted
left_then_down j i v = then_slides (slide Horizontal j i v) (slide Vertical j i)

-- piece i slides until neither moves it, if it is free
unfoldable pub push_piece : Job → ℕ → Layout → Compacted
push_piece j i v = elim (is_locked j i) [ true ↦ at_rest v | false ↦ until_at_rest (left_then_down j i) v ]

-- the pieces below n slide, in number order
unfoldable pub push_below : Job → ℕ → Layout → Compacted
push_below j zero v = at_rest v
push_below j (suc n) v = then_slides (push_below j n v) (push_piece j n)

-- a pass: every piece once
abbrev pub pass : Job → Layout → Compacted
pass j v = push_below j j.size.count v

-- passes until one moves nothing
unfoldable pub compact : Job → Layout → Compacted
compact j v = until_at_rest (pass j) v
