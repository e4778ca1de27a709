-- What a line search finds (document 01, 'Line search'). The theorem is `searched` in proofs/Search. Assumes nothing.
use Rattle.std.specs.Prelude.{true, List, ◌≡◌, ℕ, ◌<◌, ◌≤◌}
use Rattle.model.specs.Piece.{on_line}
use Rattle.model.specs.Layout.{Job, Layout, inside, piece_sum}
use Rattle.model.specs.Search.{Best, moved_to, least}
use Rattle.model.specs.declared.Turn.{Turn}
use Rattle.model.specs.declared.Line.{Line}

-- b is attained at an inside corner, no inside corner has a smaller sum, and every smaller coordinate has a larger one
pub record LeastFound (j : Job) (ws : List ℕ) (v : Layout) (i : ℕ) (t : Turn) (line : Line) (b : Best) : Type 0 where
  pub inside_sheet : inside j i (on_line line t b.at) ≡ true
  pub attained : b.sum ≡ piece_sum j ws (moved_to v i t line b.at) i
  pub least : (a : ℕ) → inside j i (on_line line t a) ≡ true → b.sum ≤ piece_sum j ws (moved_to v i t line a) i
  pub smallest : (a : ℕ) → a < b.at → b.sum < piece_sum j ws (moved_to v i t line a) i
