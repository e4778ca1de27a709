-- The units between different owners, and lines put into a line buffer one after another. Assumes nothing.
use Rattle.std.specs.Prelude.{Bool, true, false, not, List, map, ◌≡◌, ℕ, zero, suc, ◌+◌, ◌-◌, ◌*◌, ◌≤◌, ltb, eqb, length, get_or}
use Rattle.std.proofs.lemmas.List.Edits.{sets}
use Rattle.model.specs.Piece.{Shape}
use Rattle.model.specs.Strip.{Strip, strip_of, runs_from}
use Rattle.model.specs.Lent.{column_bound}
use Rattle.model.specs.Cut.{set_along, cut_line_of, line_entry}
use Rattle.model.specs.declared.Direction.{Direction}
use Rattle.cut_scan.specs.declared.Grid.{Grid}

-- the four numbers of a grid are at most document 01's limit of columns
pub record SmallGrid (g : Grid) : Type 0 where
  pub length : g.length ≤ column_bound
  pub lines : g.lines ≤ column_bound
  pub along : g.along ≤ column_bound
  pub across : g.across ≤ column_bound

-- the owner at the given coordinates along and across, 0 past the last line
abbrev pub owner_at : List ℕ → Grid → ℕ → ℕ → ℕ
owner_at os g a c = elim (ltb c g.lines) [ true ↦ get_or os (a * g.along + c * g.across) 0 | false ↦ 0 ]

-- the owner before the unit a of line c, 0 before line 0
abbrev pub before_at : List ℕ → Grid → ℕ → ℕ → ℕ
before_at os g a zero = 0
before_at os g a (suc c) = owner_at os g a c

-- the owners before and after the unit a of line c differ
unfoldable pub side_at : List ℕ → Grid → ℕ → ℕ → Bool
side_at os g a c = not (eqb (before_at os g a c) (owner_at os g a c))

-- the units between different owners
abbrev pub grid_units : Direction → List ℕ → Grid → Shape
grid_units d os g = set_along d g.length (suc g.lines) (side_at os g)

-- the strips of line c from unit a on, where the `run` units just before it are sides
unfoldable pub row_from : List ℕ → Grid → ℕ → ℕ → ℕ → List Strip
row_from os g c a run = map (strip_of c) (runs_from (λ k. side_at os g k c) a (g.length - a) run)

-- strips as entries of a line buffer
abbrev pub line_entries : Direction → List Strip → List (List ℕ)
line_entries d ts = map line_entry (map (cut_line_of d) ts)

-- the strips stand in the buffer from `at` on, as far as there is room, and the next one would stand at `next`
pub record LinesAppended (d : Direction) (ts : List Strip) (before : List (List ℕ)) (at : ℕ) (after : List (List ℕ)) (next : ℕ) : Type 0 where
  pub end : next ≡ at + length ts
  pub stored : after ≡ sets before at (line_entries d ts)

-- what is left to store is `rest`: storing it from `at` on comes to storing all from `from` on in the buffer before
pub record Left (d : Direction) (before : List (List ℕ)) (from : ℕ) (rest : List Strip) (now : List (List ℕ)) (at : ℕ) (all : List Strip) : Type 0 where
  pub stored : sets now at (line_entries d rest) ≡ sets before from (line_entries d all)
  pub counted : at + length rest ≡ from + length all
