-- Document 01, 'Sheet and panels' and 'When a call says no', number 8: the parts of the check of a lent job. Assumes nothing.
use Rattle.std.specs.Prelude.{Bool, ◌&&◌, List, ℕ, ◌+◌, ◌*◌, ◌≤◌, leb, eqb, length, get_or}
use Rattle.model.specs.Bounded.{all_below, any_below}
use Rattle.model.specs.Piece.{Shape, side_bound}
use Rattle.model.specs.Lent.{area_bound, entry_columns, entry_rows, pixel_start, entry_in_range, entry_fits, sheet_in_range}
use Rattle.model.specs.declared.JobSize.{JobSize}

-- a box of l columns and w rows whose pixels stand in a list of bytes from `start` on, each row `stride` after the last; a pixel is the
-- byte `mark`
abbrev pub box_in : ℕ → List ℕ → ℕ → ℕ → ℕ → ℕ → Shape
box_in mark bytes start stride l w =
    record { columns = l; rows = w; has = λ x y. eqb (get_or bytes (start + (y * stride + x)) 0) mark }

-- the box of entry i of a table, in a pixel store
abbrev pub stored_box : List (List ℕ) → List ℕ → ℕ → Shape
stored_box table pixels i =
    box_in 1 pixels (pixel_start table i) (entry_columns table i) (entry_columns table i) (entry_rows table i)

-- a side of a box is from 1 to 255
pub record Side (k : ℕ) : Type 0 where
  pub low : 1 ≤ k
  pub high : k ≤ side_bound

-- one of `count` bytes from `first` on, each `step` after the last, is the mark
abbrev pub some_mark : ℕ → List ℕ → ℕ → ℕ → ℕ → Bool
some_mark mark bytes first step count = any_below count (λ k. eqb (get_or bytes (first + k * step) 0) mark)

-- every byte below the bound is 0 or 1
abbrev pub all_bits : List ℕ → ℕ → Bool
all_bits bytes count = all_below count (λ k. leb (get_or bytes k 0) 1)

-- sheet, entries and areas of a lent job are well
abbrev pub table_well : JobSize → List (List ℕ) → Bool
table_well size table =
    sheet_in_range size && leb size.count (length table)
    && all_below size.count (entry_in_range table)
    && all_below size.count (entry_fits size table)
    && leb (pixel_start table size.count) area_bound
