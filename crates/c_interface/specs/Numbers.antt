-- How the numbers that an exported call is handed stand for the documents' types. Every number stands for something, so that no
-- content is left without a meaning. Assumes nothing.
use Rattle.std.specs.Prelude.{true, false, List, ℕ, eqb}
use Rattle.model.specs.Lent.{Lent, lent_by, piece_bound}
use Rattle.model.specs.Buffer.{is_turn}
use Rattle.model.specs.declared.JobSize.{JobSize}
use Rattle.model.specs.declared.Line.{Line}
use Rattle.model.specs.declared.Line.TheVariants.{InRow, InColumn}

-- a job's numbers, from those that a call is handed
abbrev pub size_as : ℕ → ℕ → ℕ → ℕ → JobSize
size_as rows columns count gap = record { rows = rows; columns = columns; count = count; gap = gap }

-- the job that the numbers, the table and the pixels lend
abbrev pub lent_as : ℕ → ℕ → ℕ → ℕ → List (List ℕ) → List ℕ → Lent
lent_as rows columns count gap table pixels = lent_by (size_as rows columns count gap) table pixels

-- the line in a held row, or in a held column if vertical
abbrev pub line_of : ℕ → ℕ → Line
line_of vertical held =
    elim (eqb vertical 0) [ true ↦ InRow (record { 0 = held }) | false ↦ InColumn (record { 0 = held }) ]

-- the piece's number, or one that no piece has where the degrees are no turn's: no piece is allowed such a turn
abbrev pub piece_with_turn : ℕ → ℕ → ℕ
piece_with_turn degrees i = elim (is_turn degrees) [ true ↦ i | false ↦ piece_bound ]
