-- Document 01, 'Strips': maximal runs of pixels, by row or by column, and the one pixel set that has given strips.
-- Assumes nothing.
use Rattle.std.specs.Prelude.{Bool, true, false, ◌&&◌, List, [], ◌∷◌, ◌++◌, map, ℕ, zero, suc, ◌+◌, ◌-◌, leb, ltb, eqb}
use Rattle.model.specs.Piece.{Point, Shape, along, across, extent, cell, other}
use Rattle.model.specs.declared.Direction.{Direction}

-- a run of numbers that pass a test: the first of them and how many
pub record Run : Type 0 where
  pub first : ℕ
  pub count : ℕ

-- the run of `run` numbers that ends before i, if there is one, in front of the later runs
abbrev pub closing : ℕ → ℕ → List Run → List Run
closing i zero later = later
closing i (suc run) later = record { first = i - suc run; count = suc run } ∷ later

-- the maximal runs from i on over the next `left` numbers, where the `run` numbers just before i pass
unfoldable pub runs_from : (ℕ → Bool) → ℕ → ℕ → ℕ → List Run
runs_from f i zero run = closing i run []
runs_from f i (suc left) run = elim (f i) [ true ↦ runs_from f (suc i) left (suc run) | false ↦ closing i run (runs_from f (suc i) left 0) ]

-- the maximal runs of the numbers below n that pass, ascending
abbrev pub runs : (ℕ → Bool) → ℕ → List Run
runs f n = runs_from f 0 n 0

-- a strip: the row's y with the first x and the count, or the column's x with the first y and the count
pub record Strip : Type 0 where
  pub line : ℕ
  pub first : ℕ
  pub count : ℕ

-- a run of a line's pixels as a strip
abbrev pub strip_of : ℕ → Run → Strip
strip_of c r = record { line = c; first = r.first; count = r.count }

-- the strips of one line
abbrev pub line_strips : Direction → Shape → ℕ → List Strip
line_strips d s c = map (strip_of c) (runs (λ a. cell d s a c) (extent d s))

-- the strips of the next `left` lines from c on
unfoldable pub strips_from : Direction → Shape → ℕ → ℕ → List Strip
strips_from d s c zero = []
strips_from d s c (suc left) = line_strips d s c ++ strips_from d s (suc c) left

-- row strips (horizontal), ordered by y, then x; column strips (vertical), ordered by x, then y
abbrev pub strips : Direction → Shape → List Strip
strips d s = strips_from d s 0 (extent (other d) s)

-- a strip holds the point
abbrev pub strip_has : Direction → Strip → Point → Bool
strip_has d t p = eqb t.line (across d p) && leb t.first (along d p) && ltb (along d p) (t.first + t.count)

-- some strip of the list holds the point
unfoldable pub strips_have : Direction → List Strip → Point → Bool
strips_have d [] p = false
strips_have d (t ∷ ts) p = elim (strip_has d t p) [ true ↦ true | false ↦ strips_have d ts p ]

-- the pixels of the strips, in a box of l columns and w rows: what rebuilding gives
unfoldable pub rebuilt : Direction → ℕ → ℕ → List Strip → Shape
rebuilt d l w ts = record { columns = l; rows = w; has = λ x y. strips_have d ts (record { x = x; y = y }) }
