-- Document 01, 'Line search': the best inside corner on a line, the other pieces fixed. Assumes nothing.
use Rattle.std.specs.Prelude.{true, false, List, ℕ, zero, suc, ◌+◌, ◌-◌, leb, ltb}
use Rattle.std.proofs.Math.Option.{Option, none, some}
use Rattle.model.specs.Piece.{extent, other, line_direction, held, on_line}
use Rattle.model.specs.Layout.{Job, Layout, sheet_extent, turned_piece, with_place, piece_sum}
use Rattle.model.specs.declared.Turn.{Turn}
use Rattle.model.specs.declared.Line.{Line}

-- how many inside corners lie on the line for piece i in the turn; they are the coordinates from 0 on
unfoldable pub places : Job → ℕ → Turn → Line → ℕ
places j i t line =
    elim (leb (held line + extent (other (line_direction line)) (turned_piece j i t)) (sheet_extent (other (line_direction line)) j))
    [ true ↦ suc (sheet_extent (line_direction line) j) - extent (line_direction line) (turned_piece j i t) | false ↦ 0 ]

-- the layout with piece i in the turn at coordinate a on the line
abbrev pub moved_to : Layout → ℕ → Turn → Line → ℕ → Layout
moved_to v i t line a = with_place v i (on_line line t a)

-- the piece's pair sum at coordinate a on the line
unfoldable pub sum_at : Job → List ℕ → Layout → ℕ → Turn → Line → ℕ → ℕ
sum_at j ws v i t line a = piece_sum j ws (moved_to v i t line a) i

-- a sum and the coordinate that has it
pub record Best : Type 0 where
  pub sum : ℕ
  pub at : ℕ

-- the smaller sum, and of two equal ones the first
abbrev pub better : Best → Best → Best
better b c = elim (ltb c.sum b.sum) [ true ↦ c | false ↦ b ]

-- the least of f 0, .., f n, and the smallest number that has it
unfoldable pub least : (ℕ → ℕ) → ℕ → Best
least f zero = record { sum = f 0; at = 0 }
least f (suc n) = better (least f n) (record { sum = f (suc n); at = suc n })

-- the line search: the least sum of the piece's pairs over every inside corner on the line, and the smallest coordinate that
-- has it; none where no inside corner lies on the line
unfoldable pub search_line : Job → List ℕ → Layout → ℕ → Turn → Line → Option Best
search_line j ws v i t line = elim (places j i t line) [ zero ↦ none | suc n ↦ some (least (sum_at j ws v i t line) n) ]
