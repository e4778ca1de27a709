-- Weights and penalties of two pieces by their numbers, whichever is lower. Assumes nothing.
use Rattle.std.specs.Prelude.{true, false, List, ℕ, ltb, get_or}
use Rattle.model.specs.Piece.{corner, on_line}
use Rattle.model.specs.Overlap.{penalty}
use Rattle.model.specs.Layout.{Job, Layout, corner_in, place_of}
use Rattle.model.specs.declared.Placement.{Placement}
use Rattle.model.specs.declared.Turn.{Turn}
use Rattle.model.specs.declared.Line.{Line}
use Rattle.overlap_laws.specs.Grown.{grown_piece, grown_in}
use Rattle.search_laws.specs.Pairs.{pair_index}

-- the weight of the pair of i and k, in either order; 0 where they are one
unfoldable pub weight_between : ℕ → List ℕ → ℕ → ℕ → ℕ
weight_between n ws i k =
    elim (ltb i k)
    [ true ↦ get_or ws (pair_index n i k) 0 | false ↦ elim (ltb k i) [ true ↦ get_or ws (pair_index n k i) 0 | false ↦ 0 ] ]

-- the penalty of piece i, placed at p, and piece k as the layout places it: by the job's gap, so of both grown by it
unfoldable pub penalty_placed : Job → Layout → ℕ → Placement → ℕ → ℕ
penalty_placed j v i p k = penalty (grown_piece j i p.turn) (corner p) (grown_in j v k) (corner_in v k)

-- the penalty of pieces i and k in the layout
abbrev pub penalty_between : Job → Layout → ℕ → ℕ → ℕ
penalty_between j v i k = penalty_placed j v i (place_of v i) k

-- the penalty of piece i in the turn at coordinate a on the line, and piece k as the layout places it
unfoldable pub penalty_on : Job → Layout → ℕ → Turn → Line → ℕ → ℕ → ℕ
penalty_on j v i t line a k = penalty (grown_piece j i t) (corner (on_line line t a)) (grown_in j v k) (corner_in v k)
