-- A job as it is lent to a call: document 01's W, L and n, document 02's gap g, a table of n entries (l, w, o and document 02's lock) and a store
-- of one byte a box pixel, row by row, piece after piece. Buffers may be longer than the job needs. Assumes nothing.
use Rattle.std.specs.Prelude.{Bool, ◌&&◌, List, [], ℕ, ◌+◌, ◌*◌, ◌%◌, leb, eqb, length, get_or}
use Rattle.model.specs.Bounded.{all_below, sum_below}
use Rattle.model.specs.Piece.{Shape, tight}
pub use Rattle.model.specs.Piece.{side_bound, gap_bound}
use Rattle.model.specs.Layout.{Job}
use Rattle.model.specs.declared.JobSize.{JobSize}

-- what is lent
pub record Lent : Type 0 where
  pub size : JobSize
  pub table : List (List ℕ)
  pub pixels : List ℕ

-- the job that a call is lent: its numbers, its table and its pixels
abbrev pub lent_by : JobSize → List (List ℕ) → List ℕ → Lent
lent_by size table pixels = record { size = size; table = table; pixels = pixels }

-- ── document 01's limits ──

-- the most rows and columns of a sheet, pieces of a job, and the largest sum of turns; the most pixels along a box side is Piece's
-- `side_bound`
abbrev pub row_bound : ℕ
row_bound = 512

abbrev pub column_bound : ℕ
column_bound = 4096

abbrev pub piece_bound : ℕ
piece_bound = 64

abbrev pub turns_bound : ℕ
turns_bound = 15

-- the largest lock: 1 locked, 0 free
abbrev pub lock_bound : ℕ
lock_bound = 1

-- the most pixels of a sheet, and of all boxes together
abbrev pub area_bound : ℕ
area_bound = 65536

-- from 1 to the bound
abbrev pub up_to : ℕ → ℕ → Bool
up_to bound k = leb 1 k && leb k bound

-- ── the table ──

-- entry i of the table: l columns, w rows, o the sum of the turns, and the lock
abbrev pub entry_columns : List (List ℕ) → ℕ → ℕ
entry_columns table i = get_or (get_or table i []) 0 0

abbrev pub entry_rows : List (List ℕ) → ℕ → ℕ
entry_rows table i = get_or (get_or table i []) 1 0

abbrev pub entry_turns : List (List ℕ) → ℕ → ℕ
entry_turns table i = get_or (get_or table i []) 2 0

abbrev pub entry_lock : List (List ℕ) → ℕ → ℕ
entry_lock table i = get_or (get_or table i []) 3 0

-- the box area of entry i
abbrev pub entry_area : List (List ℕ) → ℕ → ℕ
entry_area table i = entry_columns table i * entry_rows table i

-- where piece i's pixels begin in the store; at n, how many the store has to have
unfoldable pub pixel_start : List (List ℕ) → ℕ → ℕ
pixel_start table i = sum_below i (entry_area table)

-- the sides l and w are in range, and the sum o of turns is odd and at most 15
abbrev pub sides_in_range : ℕ → ℕ → ℕ → Bool
sides_in_range l w o = up_to side_bound l && up_to side_bound w && eqb (o % 2) 1 && leb o turns_bound

-- an entry's sides and turns are in range, and its lock is 0 or 1
unfoldable pub entry_in_range : List (List ℕ) → ℕ → Bool
entry_in_range table i = sides_in_range (entry_columns table i) (entry_rows table i) (entry_turns table i) && leb (entry_lock table i) lock_bound

-- the box is no longer and no wider than the sheet
unfoldable pub entry_fits : JobSize → List (List ℕ) → ℕ → Bool
entry_fits size table i = leb (entry_columns table i) size.columns && leb (entry_rows table i) size.rows

-- ── the job ──

-- the pixels of piece i
abbrev pub lent_shape : Lent → ℕ → Shape
lent_shape j i =
    record {
      columns = entry_columns j.table i;
      rows = entry_rows j.table i;
      has = λ x y. eqb (get_or j.pixels (pixel_start j.table i + (y * entry_columns j.table i + x)) 0) 1;
    }

-- the job that is lent
unfoldable pub job_of : Lent → Job
job_of j =
    record {
      size = j.size;
      piece = λ i. record { shape = lent_shape j i; turns = entry_turns j.table i; locked = eqb (entry_lock j.table i) 1 };
    }

-- W, L, n and g are in range
abbrev pub numbers_in_range : JobSize → Bool
numbers_in_range size =
    up_to row_bound size.rows && up_to column_bound size.columns && up_to piece_bound size.count && leb size.gap gap_bound

-- they are, and the sheet is not too large
unfoldable pub sheet_in_range : JobSize → Bool
sheet_in_range size = numbers_in_range size && leb (size.rows * size.columns) area_bound

-- what is lent is what some reading gives: sheet, entries, areas, store, bytes and boxes
unfoldable pub lent_well : Lent → Bool
lent_well j =
    sheet_in_range j.size && leb j.size.count (length j.table)
    && all_below j.size.count (entry_in_range j.table)
    && all_below j.size.count (entry_fits j.size j.table)
    && leb (pixel_start j.table j.size.count) area_bound
    && leb (pixel_start j.table j.size.count) (length j.pixels)
    && all_below (pixel_start j.table j.size.count) (λ k. leb (get_or j.pixels k 0) 1)
    && all_below j.size.count (λ i. tight (lent_shape j i))
