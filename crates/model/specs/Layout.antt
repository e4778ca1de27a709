-- Document 01, 'Sheet and panels' (inside), 'No-fit rows and penalty' (weights and sums) and the check of a layout; document 02,
-- points 1 (used length), 3 (a piece placed anew, and what is shown of a layout), 4 (the gap) and 6 (locked pieces). Assumes nothing.
use Rattle.std.specs.Prelude.{Bool, true, false, ◌&&◌, ◌||◌, List, [], ◌∷◌, ◌++◌, ℕ, zero, suc, ◌+◌, ◌-◌, ◌*◌, min, max, leb, eqb, length, get_or, set, replicate}
use Rattle.std.proofs.Math.Option.{Option, none, some}
use Rattle.model.specs.Piece.{Point, Shape, Piece, turned, corner, allows}
use Rattle.model.specs.Overlap.{conflict, conflict_penalty, conflict_depth}
use Rattle.model.specs.declared.Turn.{Turn}
use Rattle.model.specs.declared.Turn.TheVariants.{Zero}
use Rattle.model.specs.declared.Direction.{Direction}
use Rattle.model.specs.declared.Direction.TheVariants.{Horizontal, Vertical}
use Rattle.model.specs.declared.Placement.{Placement}
use Rattle.model.specs.declared.JobSize.{JobSize}
use Rattle.model.specs.declared.Figures.{Figures}

-- a job: a sheet of so many rows (W) and columns (L), so many pieces (n), numbered from 0, and a gap between them (g)
pub record Job : Type 0 where
  pub size : JobSize
  pub piece : ℕ → Piece

-- the sheet's pixels along the direction: L columns, W rows
abbrev pub sheet_extent : Direction → Job → ℕ
sheet_extent Horizontal j = j.size.columns
sheet_extent Vertical j = j.size.rows

-- a piece in a turn
abbrev pub turned_piece : Job → ℕ → Turn → Shape
turned_piece j i t = turned t (j.piece i).shape

-- the turn is allowed to the piece
abbrev pub allowed : Job → ℕ → Turn → Bool
allowed j i t = allows (j.piece i).turns t

-- the piece is locked: it is under the knife already (document 02, point 6)
abbrev pub is_locked : Job → ℕ → Bool
is_locked j i = (j.piece i).locked

-- the turned box lies in the sheet
unfoldable pub inside : Job → ℕ → Placement → Bool
inside j i p =
    leb (p.x.0 + (turned_piece j i p.turn).columns) j.size.columns && leb (p.y.0 + (turned_piece j i p.turn).rows) j.size.rows

-- turn 0 at corner (0, 0)
abbrev pub origin : Placement
origin = record { turn = Zero; x = record { 0 = 0 }; y = record { 0 = 0 } }

-- a layout: a placement for each piece, in order of number
abbrev pub Layout : Type 0
Layout = List Placement

-- the placement of piece i
abbrev pub place_of : Layout → ℕ → Placement
place_of v i = get_or v i origin

-- the layout with piece i placed at p, every other piece as it is
abbrev pub with_place : Layout → ℕ → Placement → Layout
with_place v i p = set v i p

-- the pixels of piece i as the layout turns it, and its corner
abbrev pub shape_in : Job → Layout → ℕ → Shape
shape_in j v i = turned_piece j i (place_of v i).turn

abbrev pub corner_in : Layout → ℕ → Point
corner_in v i = corner (place_of v i)

-- ── pairs ──

-- two piece numbers; in the list of pairs the lower stands first
pub record Pair : Type 0 where
  pub first : ℕ
  pub second : ℕ

-- the pair of two piece numbers, in the order in which they are named
abbrev pub pair_of : ℕ → ℕ → Pair
pair_of i k = record { first = i; second = k }

-- the pairs (i, k), (i, k + 1), .. of the next `left` numbers
unfoldable pub pairs_with : ℕ → ℕ → ℕ → List Pair
pairs_with i k zero = []
pairs_with i k (suc left) = pair_of i k ∷ pairs_with i (suc k) left

-- the pairs whose first number is one of the next `left` from i on, where i + left pieces are there
unfoldable pub pairs_from : ℕ → ℕ → List Pair
pairs_from i zero = []
pairs_from i (suc left) = pairs_with i (suc i) left ++ pairs_from (suc i) left

-- all pairs of n pieces, in the order (0,1), (0,2), ..
abbrev pub pairs : ℕ → List Pair
pairs n = pairs_from 0 n

-- what is measured of two placed shapes, of the pair's pieces in the layout
abbrev pub of_pair : {A : Type 0} → (Shape → Point → Shape → Point → A) → Job → Layout → Pair → A
of_pair measure j v p =
    measure (shape_in j v p.first) (corner_in v p.first) (shape_in j v p.second) (corner_in v p.second)

-- the pair's pieces conflict in the layout, by the job's gap
unfoldable pub pair_conflicts : Job → Layout → Pair → Bool
pair_conflicts j v p = of_pair (conflict j.size.gap) j v p

-- the pair's penalty in the layout
unfoldable pub pair_penalty : Job → Layout → Pair → ℕ
pair_penalty j v p = of_pair (conflict_penalty j.size.gap) j v p

-- the pair's depth along the direction in the layout
unfoldable pub pair_depth : Direction → Job → Layout → Pair → ℕ
pair_depth d j v p = of_pair (conflict_depth j.size.gap d) j v p

-- the pair names piece i
abbrev pub names : ℕ → Pair → Bool
names i p = eqb p.first i || eqb p.second i

-- ── sums ──

-- weight × cost, added over the pairs that pass; the k-th weight is the k-th pair's
unfoldable pub sum_over : (Pair → Bool) → (Pair → ℕ) → List Pair → List ℕ → ℕ
sum_over test cost [] ws = 0
sum_over test cost (p ∷ ps) [] = 0
sum_over test cost (p ∷ ps) (w ∷ ws) = elim (test p) [ true ↦ w * cost p | false ↦ 0 ] + sum_over test cost ps ws

-- the weighted sum: over all pairs
unfoldable pub weighted_sum : Job → List ℕ → Layout → ℕ
weighted_sum j ws v = sum_over (λ p. true) (pair_penalty j v) (pairs j.size.count) ws

-- weights 1, one a pair
unfoldable pub unit_weights : ℕ → List ℕ
unit_weights n = replicate (length (pairs n)) 1

-- the plain sum: weights 1
unfoldable pub plain_sum : Job → Layout → ℕ
plain_sum j v = weighted_sum j (unit_weights j.size.count) v

-- the weighted sum of the pairs that name piece i
unfoldable pub piece_sum : Job → List ℕ → Layout → ℕ → ℕ
piece_sum j ws v i = sum_over (names i) (pair_penalty j v) (pairs j.size.count) ws

-- ── the whole layout ──

-- the right end of piece i: corner x plus the turned box's columns
abbrev pub right_end : Job → Layout → ℕ → ℕ
right_end j v i = (corner_in v i).x + (shape_in j v i).columns

-- the largest right end of the pieces below n
unfoldable pub rightmost : Job → Layout → ℕ → ℕ
rightmost j v zero = 0
rightmost j v (suc n) = max (rightmost j v n) (right_end j v n)

-- the smallest corner x of piece 0 and of the pieces below n
unfoldable pub leftmost : Layout → ℕ → ℕ
leftmost v zero = (corner_in v 0).x
leftmost v (suc n) = min (leftmost v n) (corner_in v n).x

-- the used length: the largest right end less the smallest corner x
unfoldable pub used_length : Job → Layout → ℕ
used_length j v = rightmost j v j.size.count - leftmost v j.size.count

-- what a preview shows of a layout by given weights: its weighted sum and its used length
unfoldable pub figures : Job → List ℕ → Layout → Figures
figures j ws v = record { sum = weighted_sum j ws v; length = used_length j v }

-- the first pair of the list that passes
unfoldable pub first_pair : (Pair → Bool) → List Pair → Option Pair
first_pair test [] = none
first_pair test (p ∷ ps) = elim (test p) [ true ↦ some p | false ↦ first_pair test ps ]

-- the pair that the check of a layout names: lowest first number, then lowest second
unfoldable pub conflicting_pair : Job → Layout → Option Pair
conflicting_pair j v = first_pair (pair_conflicts j v) (pairs j.size.count)
