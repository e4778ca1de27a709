-- Document 02, point 2, worked examples of the cut list, one test that the checker computes: the request's two full 2 × 2 pieces with
-- 5 lines and 14 sides, a ring with a pixel in its hole and room around it, the same two pieces under each other's number, a piece of
-- separate parts, one pixel alone, two pieces that touch along half a side, one at the sheet's right and top edge, and points and steps in
-- millimetres. Assumes nothing.
use Rattle.std.specs.Prelude.{Bool, true, false, not, ◌&&◌, ◌||◌, List, [], ◌∷◌, map, ◌≡◌, refl, ℕ, eqb, Float, pos, negsuc, length, get_or}
use Rattle.std.specs.Float.{fin}
use Rattle.std.specs.Float.Ieee.{eq, round, of_int, div}
use Rattle.model.specs.Piece.{Shape}
use Rattle.model.specs.Strip.{runs_from, strips_from}
use Rattle.model.specs.Layout.{Job, Layout}
use Rattle.model.specs.Buffer.{turn_of_degrees, turn_of, placement, same_numbers, same_entries}
use Rattle.model.specs.Cut.{side_of, sides, unit_count, side_count, total_length, cut_lines}
use Rattle.model.specs.Cut.{Step, lift, cut, done, steps, step_at, millimetres, step_in, line_entry}
use Rattle.model.specs.declared.CutStep.{CutStep}
use Rattle.model.specs.declared.CutStep.TheVariants.{Lift, Cut, Done}

-- a full box
unfoldable pub full : ℕ → ℕ → Shape
full columns rows = record { columns = columns; rows = rows; has = λ x y. true }

-- the pieces of a job, each allowed every turn, on a sheet of so many rows and columns
unfoldable pub job_with : ℕ → ℕ → List Shape → Job
job_with rows columns shapes =
    record {
      size = record { rows = rows; columns = columns; count = length shapes; gap = 0 };
      piece = λ i. record { shape = get_or shapes i (full 1 1); turns = 15; locked = false };
    }

-- a step as numbers: 0 for a lift, 1 for a cut, with x and y; 2 for done
abbrev step_numbers : Step → List ℕ
step_numbers (lift p) = 0 ∷ p.x ∷ p.y ∷ []
step_numbers (cut p) = 1 ∷ p.x ∷ p.y ∷ []
step_numbers done = 2 ∷ []

-- the layout's lines (direction, line, first, last), their number and the number of sides are these, and the lines' lengths add up to it
unfoldable pub listed : Job → Layout → ℕ → List (List ℕ) → Bool
listed j v count lines =
    same_entries (map line_entry (cut_lines j v)) lines && eqb (side_count j v) count && eqb (total_length (cut_lines j v)) count

-- two full 2 × 2 pieces side by side: the side between them is cut once, and the long sides of both are one line each
unfoldable pub two_squares : Job
two_squares = job_with 2 4 (full 2 2 ∷ full 2 2 ∷ [])

unfoldable pub side_by_side : Layout
side_by_side = placement 0 0 0 ∷ placement 0 2 0 ∷ []

unfoldable pub squares : Bool
squares =
    listed two_squares side_by_side 14
    ((0 ∷ 0 ∷ 0 ∷ 4 ∷ []) ∷ (0 ∷ 2 ∷ 0 ∷ 4 ∷ []) ∷ (1 ∷ 0 ∷ 0 ∷ 2 ∷ []) ∷ (1 ∷ 2 ∷ 0 ∷ 2 ∷ []) ∷ (1 ∷ 4 ∷ 0 ∷ 2 ∷ []) ∷ [])
    && eqb (length (cut_lines two_squares side_by_side)) 5

-- all their steps, and done for every later number
unfoldable pub square_steps : Bool
square_steps =
    same_entries
    (map (λ k. step_numbers (step_at (cut_lines two_squares side_by_side) k)) (0 ∷ 1 ∷ 2 ∷ 3 ∷ 4 ∷ 5 ∷ 6 ∷ 7 ∷ 8 ∷ 9 ∷ 10 ∷ 11 ∷ 18446744073709551615 ∷ []))
    ((0 ∷ 0 ∷ 0 ∷ []) ∷ (1 ∷ 4 ∷ 0 ∷ []) ∷ (0 ∷ 0 ∷ 2 ∷ []) ∷ (1 ∷ 4 ∷ 2 ∷ []) ∷ (0 ∷ 0 ∷ 0 ∷ []) ∷ (1 ∷ 0 ∷ 2 ∷ []) ∷ (0 ∷ 2 ∷ 0 ∷ []) ∷ (1 ∷ 2 ∷ 2 ∷ [])
    ∷ (0 ∷ 4 ∷ 0 ∷ []) ∷ (1 ∷ 4 ∷ 2 ∷ []) ∷ (2 ∷ []) ∷ (2 ∷ []) ∷ (2 ∷ []) ∷ [])

-- a ring of 5 × 5 around a hole of 3 × 3, and a single pixel in the middle of the hole: the hole is cut, and the pixel in it
unfoldable pub ring_shape : Shape
ring_shape = record { columns = 5; rows = 5; has = λ x y. eqb x 0 || eqb x 4 || (eqb y 0 || eqb y 4) }

unfoldable pub ring_lines : List (List ℕ)
ring_lines =
    (0 ∷ 0 ∷ 1 ∷ 6 ∷ []) ∷ (0 ∷ 1 ∷ 2 ∷ 5 ∷ []) ∷ (0 ∷ 2 ∷ 3 ∷ 4 ∷ []) ∷ (0 ∷ 3 ∷ 3 ∷ 4 ∷ []) ∷ (0 ∷ 4 ∷ 2 ∷ 5 ∷ []) ∷ (0 ∷ 5 ∷ 1 ∷ 6 ∷ [])
    ∷ (1 ∷ 1 ∷ 0 ∷ 5 ∷ []) ∷ (1 ∷ 2 ∷ 1 ∷ 4 ∷ []) ∷ (1 ∷ 3 ∷ 2 ∷ 3 ∷ []) ∷ (1 ∷ 4 ∷ 2 ∷ 3 ∷ []) ∷ (1 ∷ 5 ∷ 1 ∷ 4 ∷ []) ∷ (1 ∷ 6 ∷ 0 ∷ 5 ∷ []) ∷ []

unfoldable pub ring : Bool
ring = listed (job_with 5 6 (ring_shape ∷ full 1 1 ∷ [])) (placement 0 1 0 ∷ placement 0 3 2 ∷ []) 36 ring_lines

-- the pixel as piece 0 and the ring as piece 1, where they were: the same lines
unfoldable pub renumbered : Bool
renumbered = listed (job_with 5 6 (full 1 1 ∷ ring_shape ∷ [])) (placement 0 3 2 ∷ placement 0 1 0 ∷ []) 36 ring_lines

-- a piece of three separate pixels, (0, 0), (1, 1) and (2, 0): at its corners the lines of two pixels join and pass
unfoldable pub parts : Bool
parts =
    listed (job_with 3 4 (record { columns = 3; rows = 2; has = λ x y. not (eqb x 1) && eqb y 0 || (eqb x 1 && eqb y 1) } ∷ [])) (placement 0 0 0 ∷ []) 12
    ((0 ∷ 0 ∷ 0 ∷ 1 ∷ []) ∷ (0 ∷ 0 ∷ 2 ∷ 3 ∷ []) ∷ (0 ∷ 1 ∷ 0 ∷ 3 ∷ []) ∷ (0 ∷ 2 ∷ 1 ∷ 2 ∷ [])
    ∷ (1 ∷ 0 ∷ 0 ∷ 1 ∷ []) ∷ (1 ∷ 1 ∷ 0 ∷ 2 ∷ []) ∷ (1 ∷ 2 ∷ 0 ∷ 2 ∷ []) ∷ (1 ∷ 3 ∷ 0 ∷ 1 ∷ []) ∷ [])

-- one pixel alone, at (2, 1)
unfoldable pub pixel_alone : Bool
pixel_alone =
    listed (job_with 3 4 (full 1 1 ∷ [])) (placement 0 2 1 ∷ []) 4
    ((0 ∷ 1 ∷ 2 ∷ 3 ∷ []) ∷ (0 ∷ 2 ∷ 2 ∷ 3 ∷ []) ∷ (1 ∷ 2 ∷ 1 ∷ 2 ∷ []) ∷ (1 ∷ 3 ∷ 1 ∷ 2 ∷ []) ∷ [])

-- two full 2 × 2 pieces, the second one row higher: half of a side is shared, and the line between them is one
unfoldable pub half_a_side : Bool
half_a_side =
    listed (job_with 3 4 (full 2 2 ∷ full 2 2 ∷ [])) (placement 0 0 0 ∷ placement 0 2 1 ∷ []) 15
    ((0 ∷ 0 ∷ 0 ∷ 2 ∷ []) ∷ (0 ∷ 1 ∷ 2 ∷ 4 ∷ []) ∷ (0 ∷ 2 ∷ 0 ∷ 2 ∷ []) ∷ (0 ∷ 3 ∷ 2 ∷ 4 ∷ [])
    ∷ (1 ∷ 0 ∷ 0 ∷ 2 ∷ []) ∷ (1 ∷ 2 ∷ 0 ∷ 3 ∷ []) ∷ (1 ∷ 4 ∷ 1 ∷ 3 ∷ []) ∷ [])

-- document 01's B turned by 90, (0, 0), (1, 0) and (1, 1), at the right and top edge of a sheet of 3 rows and 5 columns
unfoldable pub at_the_edge : Bool
at_the_edge =
    listed (job_with 3 5 (record { columns = 2; rows = 2; has = λ x y. eqb x 0 || eqb y 0 } ∷ [])) (placement 90 3 1 ∷ []) 8
    ((0 ∷ 1 ∷ 3 ∷ 5 ∷ []) ∷ (0 ∷ 2 ∷ 3 ∷ 4 ∷ []) ∷ (0 ∷ 3 ∷ 4 ∷ 5 ∷ []) ∷ (1 ∷ 3 ∷ 1 ∷ 2 ∷ []) ∷ (1 ∷ 4 ∷ 2 ∷ 3 ∷ []) ∷ (1 ∷ 5 ∷ 1 ∷ 3 ∷ []) ∷ [])

-- with a pitch of 1 line 3 is at 3/64 mm, with 96 at 4.5 mm; the largest line and pitch are at 262,144 mm
unfoldable pub in_millimetres : Bool
in_millimetres =
    eq (millimetres 0 96) (fin false 0 (pos 0)) && eq (millimetres 3 1) (fin false 3 (negsuc 5)) && eq (millimetres 3 96) (fin false 9 (negsuc 0))
    && eq (millimetres 4096 4096) (fin false 1 (pos 18))

-- a lift to the point (a, b), and a cut to it
abbrev is_lift : Float → Float → CutStep → Bool
is_lift a b (Lift x y) = eq x a && eq y b
is_lift a b (Cut x y) = false
is_lift a b Done = false

abbrev is_cut : Float → Float → CutStep → Bool
is_cut a b (Cut x y) = eq x a && eq y b
is_cut a b (Lift x y) = false
is_cut a b Done = false

-- done
abbrev is_done : CutStep → Bool
is_done Done = true
is_done (Lift x y) = false
is_done (Cut x y) = false

-- with a pitch of 96 the squares' second line is a lift to (0, 3) mm and a cut to (6, 3) mm, and after the last line they are done
unfoldable pub steps_in_millimetres : Bool
steps_in_millimetres =
    is_lift (fin false 0 (pos 0)) (fin false 3 (pos 0)) (step_in 96 (step_at (cut_lines two_squares side_by_side) 2))
    && is_cut (fin false 3 (pos 1)) (fin false 3 (pos 0)) (step_in 96 (step_at (cut_lines two_squares side_by_side) 3))
    && is_done (step_in 96 (step_at (cut_lines two_squares side_by_side) 10))

-- all of them
unfoldable pub cut_examples : Bool
cut_examples = squares && square_steps && ring && renumbered && parts && pixel_alone && half_a_side && at_the_edge && in_millimetres && steps_in_millimetres
