-- Two boxes. Assumes nothing.
use Rattle.std.specs.Prelude.{◌⊎◌, ◌+◌, ◌≤◌}
use Rattle.model.specs.Piece.{Shape}

-- along rows or along columns half of the two sides together is below 256, and the boxes part within that: so every penalty fits a byte. So it is with
-- two different pieces of a job, grown by its gap (proofs/Pieces, `asked_small`), and with any that are equal to these, of which one piece may
-- stand for both
abbrev pub ShortTogether : Shape → Shape → Type 0
ShortTogether s t = (s.columns + t.columns ≤ 511) ⊎ (s.rows + t.rows ≤ 511)
