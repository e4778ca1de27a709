-- What document 02, point 2, says of the sides of a layout and of its cut list. The theorem is `cut_claims` in proofs/CutClaims. Assumes
-- nothing.
use Rattle.std.specs.Prelude.{true, false, List, ◌⊎◌, ◌≢◌, ◌↔◌, ◌≡◌, ℕ, suc, ◌+◌, ◌*◌, ◌<◌, ◌≤◌, length}
use Rattle.std.specs.Float.Ieee.Exact.{HasValue}
use Rattle.model.specs.Piece.{Point, pixel, along, across, point}
use Rattle.model.specs.Layout.{Job, Layout, shape_in, corner_in}
use Rattle.model.specs.Lent.{column_bound}
use Rattle.model.specs.Cut.{CutLine, sides, side_count, total_length, cut_lines, smaller_end, larger_end, pitch_bound, millimetres}
use Rattle.model.specs.declared.Direction.{Direction}
use Rattle.cut_laws.specs.Lines.{cut_line_at, LinesExactly, LinesClaims, StepClaims}

-- p is a pixel of the sheet
pub record IsSheetPixel (j : Job) (p : Point) : Type 0 where
  pub column : p.x < j.size.columns
  pub row : p.y < j.size.rows

-- a pixel of piece i, as the layout turns it, that its corner takes to the sheet's place p
pub record HasPixel (j : Job) (v : Layout) (i : ℕ) (p : Point) : Type 0 where
  pub from : Point
  pub is_pixel : pixel (shape_in j v i) from ≡ true
  pub column : (corner_in v i).x + from.x ≡ p.x
  pub row : (corner_in v i).y + from.y ≡ p.y

-- p is one of the two places beside the unit a of pixel line c: the one after the line, or the one before it
abbrev pub BesideUnit : Direction → ℕ → ℕ → Point → Type 0
BesideUnit d a c p = (along d p ≡ a) × ((across d p ≡ c) ⊎ (suc (across d p) ≡ c))

-- the unit stands between a pixel of a piece and a pixel that is not of the same piece, or the sheet's outside: below line 0 there is no
-- other place, and past the last line it is none of the sheet's
pub record SideBetween (d : Direction) (j : Job) (v : Layout) (a c : ℕ) : Type 0 where
  pub piece : ℕ
  pub there : piece < j.size.count
  pub place : Point
  pub beside : BesideUnit d a c place
  pub own : HasPixel j v piece place
  pub beyond : (q : Point) → BesideUnit d a c q → q ≢ place → (HasPixel j v piece q → ⊥) ⊎ (IsSheetPixel j q → ⊥)

-- the same pieces on the same sheet under other numbers, lying where they lay: piece i has number `number i`, and every number is taken. What
-- counts is the pixels that each lies on, so that a lent job with its pieces in another order is one
pub record Renumbered (j : Job) (v : Layout) (j' : Job) (v' : Layout) : Type 0 where
  pub rows : j'.size.rows ≡ j.size.rows
  pub columns : j'.size.columns ≡ j.size.columns
  pub number : ℕ → ℕ
  pub there : (i : ℕ) → i < j.size.count → number i < j'.size.count
  pub back : ℕ → ℕ
  pub back_there : (k : ℕ) → k < j'.size.count → back k < j.size.count
  pub again : (k : ℕ) → k < j'.size.count → number (back k) ≡ k
  pub pixels : (i : ℕ) → i < j.size.count → (p : Point) → HasPixel j' v' (number i) p ↔ HasPixel j v i p

-- a point of pixel lines lies on the sheet or on its edge
pub record OnSheetLines (j : Job) (p : Point) : Type 0 where
  pub column : p.x ≤ j.size.columns
  pub row : p.y ≤ j.size.rows

-- document 02, point 2, of a layout
pub record CutClaims (j : Job) (v : Layout) : Type 0 where
  -- the sides are the units that stand between a pixel of a piece and a pixel that is not of the same piece, or the sheet's outside
  pub sides_exactly : (d : Direction) (a c : ℕ) → (pixel (sides d j v) (point d a c) ≡ true) ↔ SideBetween d j v a c
  -- the lines go over each side once and over nothing else, joined as far as they go, in order
  pub lines : LinesClaims (λ d. sides d j v) (cut_lines j v)
  -- and no other list does
  pub only : (ms : List CutLine) → LinesExactly (λ d. sides d j v) ms → ms ≡ cut_lines j v
  -- the lines' lengths in pixels add up to the number of sides
  pub lengths : total_length (cut_lines j v) ≡ side_count j v
  -- the steps are the lines' ends, two for each line, and then done
  pub steps : StepClaims (cut_lines j v)
  -- both ends of each line lie on the sheet or on its edge
  pub smaller_within : (k : ℕ) → k < length (cut_lines j v) → OnSheetLines j (smaller_end (cut_line_at (cut_lines j v) k))
  pub larger_within : (k : ℕ) → k < length (cut_lines j v) → OnSheetLines j (larger_end (cut_line_at (cut_lines j v) k))
  -- there are at most (W + 1) × (L + 1) lines
  pub few_lines : length (cut_lines j v) ≤ suc j.size.rows * suc j.size.columns
  -- a renumbering of the pieces leaves the list as it is
  pub numbers_free : (j' : Job) (v' : Layout) → Renumbered j v j' v' → cut_lines j' v' ≡ cut_lines j v
  -- each coordinate in millimetres is exactly pixel line × pitch / 64: it is not negative, and its value is that fraction
  pub exact : (line pitch : ℕ) → line ≤ column_bound → pitch ≤ pitch_bound → HasValue (millimetres line pitch) false (line * pitch) 64
