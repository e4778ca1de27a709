-- A shape grown to the right and up. Two pieces conflict by a gap g exactly where the two shapes, each grown by g, share a pixel at the same corners
-- (proofs/Grown, `conflict_grown`): the one's growth reaches as far to the right and up as the other's to the left and down. So what is
-- known of shared pixels serves conflicts, and nothing needs a corner left of or below the sheet. Assumes nothing.
use Rattle.std.specs.Prelude.{Bool, ℕ, suc, ◌+◌}
use Rattle.model.specs.Bounded.{any_below}
use Rattle.model.specs.Piece.{Shape, covers, turned, side_bound, gap_bound}
use Rattle.model.specs.Layout.{Job, Layout, place_of}
use Rattle.model.specs.declared.Turn.{Turn}

-- some pixel of s lies at most e columns to the left of (x, y) and at most e rows below it
unfoldable pub grown_has : ℕ → Shape → ℕ → ℕ → Bool
grown_has e s x y = any_below (suc e) (λ b. any_below (suc e) (λ a. covers s (record { x = a; y = b }) (record { x = x; y = y })))

-- s grown by e to the right and up
abbrev pub grown : ℕ → Shape → Shape
grown e s = record { columns = s.columns + e; rows = s.rows + e; has = grown_has e s }

-- the most pixels along a side of a grown box, 263
abbrev pub wide_bound : ℕ
wide_bound = side_bound + gap_bound

-- a piece, grown by the job's gap, in a turn: it has the pixels of the turned piece, grown (proofs/GrownTurns)
abbrev pub grown_piece : Job → ℕ → Turn → Shape
grown_piece j i t = turned t (grown j.size.gap (j.piece i).shape)

-- the pixels of piece i as the layout turns it, grown by the job's gap
abbrev pub grown_in : Job → Layout → ℕ → Shape
grown_in j v i = grown_piece j i (place_of v i).turn
