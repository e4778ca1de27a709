-- Document 01, 'Marked examples of the shop': P1 to P12, one test that the checker computes, and some of them again with the gap 1 of
-- document 02, point 4. Assumes nothing.
use Rattle.std.specs.Prelude.{Bool, true, false, not, ◌&&◌, List, [], ◌∷◌, ◌≡◌, refl, ℕ, suc, eqb, ℤ, pos, negsuc}
use Rattle.std.proofs.Math.Option.{Option, none, some}
use Rattle.model.specs.Buffer.{end_number, same_numbers}
use Rattle.model.specs.Piece.{Point, Shape, Piece, pixel, turned}
use Rattle.model.specs.Strip.{Strip, strips, runs_from, strips_from}
use Rattle.model.specs.Overlap.{OffsetRun, no_fit, no_fit_at, near_to, conflict, free_at, conflict_depth, conflict_penalty}
use Rattle.model.specs.Layout.{Job, pairs_with, pairs_from, pair_penalty, sum_over, weighted_sum, piece_sum, inside}
use Rattle.model.specs.Search.{Best, places, sum_at, least, search_line}
use Rattle.model.specs.Descent.{Descent, turn_trials, piece_trials, trials_from, trials, attempt, descend_from, descend}
use Rattle.model.specs.declared.Turn.TheVariants.{Zero, Quarter, Half}
use Rattle.model.specs.declared.Direction.TheVariants.{Horizontal, Vertical}
use Rattle.model.specs.declared.Line.TheVariants.{InRow}
use Rattle.model.specs.declared.Placement.{Placement}

-- ── answers written out as numbers ──

-- strips written out as numbers: line, first, count
unfoldable pub flat_strips : List Strip → List ℕ
flat_strips [] = []
flat_strips (t ∷ ts) = t.line ∷ t.first ∷ t.count ∷ flat_strips ts

-- a signed number as its sign and its size
unfoldable pub signed : ℤ → List ℕ → List ℕ
signed (pos n) rest = 0 ∷ n ∷ rest
signed (negsuc n) rest = 1 ∷ suc n ∷ rest

-- runs of offsets written out: sign, size, count
unfoldable pub flat_runs : List OffsetRun → List ℕ
flat_runs [] = []
flat_runs (r ∷ rs) = signed r.first (r.count ∷ flat_runs rs)

-- a line search's answer written out: least sum, coordinate
unfoldable pub flat_best : Option Best → List ℕ
flat_best none = []
flat_best (some b) = b.sum ∷ b.at ∷ []

-- a descent written out: end, sum, trials, moves
unfoldable pub flat_descent : Descent → List ℕ
flat_descent r = end_number r.end ∷ r.sum ∷ r.made ∷ r.moves ∷ []

-- ── the shapes ──

-- A: full 2 × 2
unfoldable pub shape_a : Shape
shape_a = record { columns = 2; rows = 2; has = λ x y. true }

-- B: (0,0), (1,0), (0,1)
unfoldable pub shape_b : Shape
shape_b = record { columns = 2; rows = 2; has = λ x y. not (eqb x 1 && eqb y 1) }

-- D: 3 × 3 without its middle
unfoldable pub shape_d : Shape
shape_d = record { columns = 3; rows = 3; has = λ x y. not (eqb x 1 && eqb y 1) }

-- E: one pixel
unfoldable pub shape_e : Shape
shape_e = record { columns = 1; rows = 1; has = λ x y. true }

-- the corner (x, y)
unfoldable pub at : ℕ → ℕ → Point
at a b = record { x = a; y = b }

-- a placement in turn 0
unfoldable pub place : ℕ → ℕ → Placement
place a b = record { turn = Zero; x = record { 0 = a }; y = record { 0 = b } }

-- two full 2 × 2 pieces, o = 1, on a sheet of 2 rows and so many columns
unfoldable pub two_squares : ℕ → Job
two_squares columns =
    record {
      size = record { rows = 2; columns = columns; count = 2; gap = 0 };
      piece = λ i. record { shape = shape_a; turns = 1; locked = false };
    }

-- ── the examples ──

unfoldable pub P1 : Bool
P1 = same_numbers (flat_strips (strips Horizontal shape_d)) (0 ∷ 0 ∷ 3 ∷ 1 ∷ 0 ∷ 1 ∷ 1 ∷ 2 ∷ 1 ∷ 2 ∷ 0 ∷ 3 ∷ [])

unfoldable pub P2 : Bool
P2 =
    pixel (turned Quarter shape_b) (at 0 0) && pixel (turned Quarter shape_b) (at 1 0) && pixel (turned Quarter shape_b) (at 1 1)
    && not (pixel (turned Quarter shape_b) (at 0 1))

unfoldable pub P3 : Bool
P3 = same_numbers (flat_runs (no_fit 0 Horizontal shape_a shape_a (pos 1))) (1 ∷ 1 ∷ 3 ∷ [])

unfoldable pub P4 : Bool
P4 = same_numbers (flat_runs (no_fit 0 Horizontal shape_a shape_a (pos 2))) []

-- the two depths by a gap, horizontal first, and the penalty
unfoldable pub measures : ℕ → Shape → Point → Shape → Point → List ℕ
measures g s u t v = conflict_depth g Horizontal s u t v ∷ conflict_depth g Vertical s u t v ∷ conflict_penalty g s u t v ∷ []

unfoldable pub P5 : Bool
P5 = same_numbers (measures 0 shape_a (at 0 0) shape_a (at 1 0)) (1 ∷ 2 ∷ 1 ∷ [])

unfoldable pub P6 : Bool
P6 = eqb (conflict_penalty 0 shape_a (at 0 0) shape_a (at 0 0)) 2

unfoldable pub P7 : Bool
P7 = eqb (conflict_penalty 0 shape_d (at 0 0) shape_e (at 1 1)) 0

unfoldable pub P8 : Bool
P8 = same_numbers (measures 0 shape_d (at 0 0) shape_e (at 1 0)) (2 ∷ 1 ∷ 1 ∷ [])

-- A fills B's box, so that the boxes meet where two of A share a pixel
unfoldable pub P9 : Bool
P9 = conflict 0 shape_a (at 0 0) shape_a (at 1 0) && eqb (conflict_penalty 0 shape_b (at 0 0) (turned Half shape_b) (at 1 0)) 0

unfoldable pub P10 : Bool
P10 = same_numbers (flat_best (search_line (two_squares 4) (3 ∷ []) (place 1 0 ∷ place 0 0 ∷ []) 1 Zero (InRow (record { 0 = 0 })))) (3 ∷ 0 ∷ [])

-- the descent of the two squares from (0, 0), weight 1
unfoldable pub descent_of : ℕ → ℕ → List ℕ
descent_of columns budget = flat_descent (descend (two_squares columns) (1 ∷ []) budget (place 0 0 ∷ place 0 0 ∷ []))

unfoldable pub P11 : Bool
P11 = same_numbers (descent_of 4 5) (0 ∷ 0 ∷ 1 ∷ 1 ∷ [])

unfoldable pub P12 : Bool
P12 = same_numbers (descent_of 3 5) (1 ∷ 1 ∷ 5 ∷ 1 ∷ []) && same_numbers (descent_of 3 4) (2 ∷ 1 ∷ 4 ∷ 1 ∷ [])

-- ── with a gap ──

-- a single pixel in the ring's hole conflicts by a gap of 1, and not by 0
unfoldable pub rings_hole : Bool
rings_hole = conflict 1 shape_d (at 0 0) shape_e (at 1 1) && not (conflict 0 shape_d (at 0 0) shape_e (at 1 1))

-- P3, P5 and P9 by a gap of 1: the no-fit row grows by one offset at both ends, a column more is to be shifted, and the two of P9 conflict
unfoldable pub P3wide : Bool
P3wide = same_numbers (flat_runs (no_fit 1 Horizontal shape_a shape_a (pos 1))) (1 ∷ 2 ∷ 5 ∷ [])

unfoldable pub P5wide : Bool
P5wide = same_numbers (measures 1 shape_a (at 0 0) shape_a (at 1 0)) (2 ∷ 3 ∷ 2 ∷ [])

unfoldable pub P9wide : Bool
P9wide = same_numbers (measures 1 shape_b (at 0 0) (turned Half shape_b) (at 1 0)) (2 ∷ 2 ∷ 2 ∷ [])

-- columns and rows both count, each by itself: single pixels one column and one row apart conflict by a gap of 1, and those two columns
-- apart in one row do not
unfoldable pub both_count : Bool
both_count =
    conflict 1 shape_e (at 0 0) shape_e (at 1 1) && not (conflict 1 shape_e (at 0 0) shape_e (at 2 0)) && not (conflict 1 shape_e (at 0 0) shape_e (at 0 2))

-- all of them
unfoldable pub examples : Bool
examples =
    P1 && P2 && P3 && P4 && P5 && P6 && P7 && P8 && P9 && P10 && P11 && P12 && rings_hole && P3wide && P5wide && P9wide && both_count
