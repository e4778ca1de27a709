-- Document 02, point 2, the cut list: the sides of a layout's pieces as sets of units, the lines that they join into, and the steps of
-- the knife, in pixel lines and in millimetres. Assumes nothing.
--
-- The pixel lines of a sheet are the edges of its pixels: row y lies between the horizontal lines y and y + 1, column x between the
-- vertical lines x and x + 1. The unit a of the horizontal line y goes from (a, y) to (a + 1, y); that of the vertical line x from (x, a)
-- to (x, a + 1). Units of one direction are the pixels of a set, so that their maximal runs are the set's strips (Strip).
use Rattle.std.specs.Prelude.{Bool, true, false, not, List, [], ◌∷◌, ◌++◌, map, ℕ, zero, suc, ◌+◌, ◌-◌, ◌*◌, Float, pos, get_or}
use Rattle.std.specs.Float.{binary64}
use Rattle.std.specs.Float.Ieee.{of_int, div}
use Rattle.model.specs.Bounded.{any_below, sum_below, one_if}
use Rattle.model.specs.Piece.{Point, Shape, other, point, extent, cell, covers}
use Rattle.model.specs.Strip.{Strip, strips}
use Rattle.model.specs.Layout.{Job, Layout, sheet_extent, shape_in, corner_in}
use Rattle.model.specs.Buffer.{direction_number, direction_of}
use Rattle.model.specs.declared.Direction.{Direction}
use Rattle.model.specs.declared.Direction.TheVariants.{Horizontal, Vertical}
use Rattle.model.specs.declared.CutStep.{CutStep}
use Rattle.model.specs.declared.CutStep.TheVariants.{Lift, Cut, Done}

-- ── sides ──

-- one of the two tests passes and the other fails
abbrev pub differ : Bool → Bool → Bool
differ true b = not b
differ false b = b

-- piece i of the layout lies on the sheet's pixel p
abbrev pub covers_in : Job → Layout → ℕ → Point → Bool
covers_in j v i p = covers (shape_in j v i) (corner_in v i) p

-- piece i lies on the pixel before the unit a of line c; before line 0 there is none
abbrev pub covers_before : Direction → Job → Layout → ℕ → ℕ → ℕ → Bool
covers_before d j v i a zero = false
covers_before d j v i a (suc c) = covers_in j v i (point d a c)

-- the unit a of line c is a side of piece i: the piece lies on the pixel before it or on the one after it, and not on both
unfoldable pub side_of : Direction → Job → Layout → ℕ → ℕ → ℕ → Bool
side_of d j v i a c = differ (covers_before d j v i a c) (covers_in j v i (point d a c))

-- a set in a box of so many pixels along the direction and across it, by the coordinates along and across
abbrev pub set_along : Direction → ℕ → ℕ → (ℕ → ℕ → Bool) → Shape
set_along Horizontal length width test = record { columns = length; rows = width; has = test }
set_along Vertical length width test = record { columns = width; rows = length; has = λ x y. test y x }

-- the units of the sheet's lines along the direction that pass a test; a sheet has one line more than rows or columns across it
abbrev pub unit_set : Direction → Job → (ℕ → ℕ → Bool) → Shape
unit_set d j test = set_along d (sheet_extent d j) (suc (sheet_extent (other d) j)) test

-- the sides of the layout along the direction: each unit that is a side of some piece, once
unfoldable pub sides : Direction → Job → Layout → Shape
sides d j v = unit_set d j (λ a c. any_below j.size.count (λ i. side_of d j v i a c))

-- how many units a set of them along the direction has, line by line
unfoldable pub unit_count : Direction → Shape → ℕ
unit_count d s = sum_below (extent (other d) s) (λ c. sum_below (extent d s) (λ a. one_if (cell d s a c)))

-- the number of sides
unfoldable pub side_count : Job → Layout → ℕ
side_count j v = unit_count Horizontal (sides Horizontal j v) + unit_count Vertical (sides Vertical j v)

-- ── lines ──

-- a line to cut: its direction, its pixel line (y of a horizontal, x of a vertical one), and the pixel lines at which it begins and ends
pub record CutLine : Type 0 where
  pub direction : Direction
  pub line : ℕ
  pub first : ℕ
  pub last : ℕ

-- a run of units as a line
abbrev pub cut_line_of : Direction → Strip → CutLine
cut_line_of d t = record { direction = d; line = t.line; first = t.first; last = t.first + t.count }

-- a line's length in pixels
abbrev pub line_length : CutLine → ℕ
line_length l = l.last - l.first

-- the lengths of the lines, added up
unfoldable pub total_length : List CutLine → ℕ
total_length [] = 0
total_length (l ∷ ls) = line_length l + total_length ls

-- the lines of a set of units along the direction: its units joined end to end as far as they go
abbrev pub lines_along : Direction → Shape → List CutLine
lines_along d s = map (cut_line_of d) (strips d s)

-- the lines of two such sets: horizontals first, by y, then x; verticals by x, then y
abbrev pub lines_of : (Direction → Shape) → List CutLine
lines_of units = lines_along Horizontal (units Horizontal) ++ lines_along Vertical (units Vertical)

-- the lines of a layout
unfoldable pub cut_lines : Job → Layout → List CutLine
cut_lines j v = lines_of (λ d. sides d j v)

-- ── steps ──

-- a step of the knife: lift to a point, cut to a point, or done; a point's x and y are pixel lines
pub data Step : Type 0 where
  lift : Point → Step
  cut : Point → Step
  done : Step

-- the smaller end of a line, and the other
abbrev pub smaller_end : CutLine → Point
smaller_end l = point l.direction l.first l.line

abbrev pub larger_end : CutLine → Point
larger_end l = point l.direction l.last l.line

-- the steps of a list of lines: each line is a lift to its smaller end and a cut to the other
unfoldable pub steps : List CutLine → List Step
steps [] = []
steps (l ∷ ls) = lift (smaller_end l) ∷ cut (larger_end l) ∷ steps ls

-- step number k, from 0: done for every number past the last step
unfoldable pub step_at : List CutLine → ℕ → Step
step_at ls k = get_or (steps ls) k done

-- ── millimetres ──

-- the largest pitch, in sixty-fourths of a millimetre
abbrev pub pitch_bound : ℕ
pitch_bound = 4096

-- a pixel line in millimetres: pixel line × pitch / 64, as an f64
unfoldable pub millimetres : ℕ → ℕ → Float
millimetres line pitch = div binary64 (of_int binary64 (pos (line * pitch))) (of_int binary64 (pos 64))

-- a step in millimetres
abbrev pub step_in : ℕ → Step → CutStep
step_in pitch (lift p) = Lift (millimetres p.x pitch) (millimetres p.y pitch)
step_in pitch (cut p) = Cut (millimetres p.x pitch) (millimetres p.y pitch)
step_in pitch done = Done

-- ── lines in a lent buffer ──

-- a line as an entry of a line buffer: direction, pixel line, first, last
abbrev pub line_entry : CutLine → List ℕ
line_entry l = direction_number l.direction ∷ l.line ∷ l.first ∷ l.last ∷ []

-- an entry of a line buffer as a line
abbrev pub entry_line : List ℕ → CutLine
entry_line e = record { direction = direction_of (get_or e 0 0); line = get_or e 1 0; first = get_or e 2 0; last = get_or e 3 0 }
