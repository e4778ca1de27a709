-- Document 01, 'Job text' and 'When a call says no', reading a job: line by line, then the whole; document 02's versions 2 (point 4, a gap)
-- and 3 (point 6, locks). A line's form comes before its ranges. The first place of a refusal is the line, from 1, and 0 for a buffer that is too
-- short. Assumes nothing.
use Rattle.std.specs.Prelude.{Bool, true, false, not, ◌&&◌, ◌||◌, List, [], ◌∷◌, ◌++◌, ℕ, zero, suc, ◌+◌, ◌*◌, leb, ltb, eqb, length, get_or}
use Rattle.model.specs.Piece.{Shape, tight}
use Rattle.model.specs.Refusal.{Outcome, given, Cause, cause, unless, wrong_form, out_of_range, sheet_too_large, boxes_too_large, loose_box, box_too_large}
use Rattle.model.specs.Refusal.{wrong_length}
use Rattle.model.specs.Lent.{Lent, lock_bound, area_bound, numbers_in_range, sides_in_range}
use Rattle.model.specs.declared.JobSize.{JobSize}
use Rattle.model.specs.Text.{bytes, byte, line_end, Reading, wrong, got, onward, after, three_fields, four_fields, five_fields}
use Rattle.model.specs.Text.{line_at, or_else, field, cause_in, formed, and_then}

-- the word that begins a job line of version 1, which has no gap
abbrev pub job_word : List ℕ
job_word = bytes "job,1,"

-- the word that begins a job line of version 2, which has a gap (document 02, point 4)
abbrev pub gap_word : List ℕ
gap_word = bytes "job,2,"

-- the word that begins a job line of version 3, which has a gap, and whose piece lines have a lock (document 02, point 6)
abbrev pub lock_word : List ℕ
lock_word = bytes "job,3,"

-- the word that begins a piece line
abbrev pub piece_word : List ℕ
piece_word = bytes "piece,"

-- the word that begins a row line
abbrev pub row_word : List ℕ
row_word = bytes "row,"

-- ── the job line ──

-- what the job line says: W rows, L columns, n pieces, the gap g; whether its piece lines have a lock; and the position after it
pub record JobLine : Type 0 where
  pub size : JobSize
  pub locks : Bool
  pub next : ℕ

-- the numbers W, L, n, g that are read, and the position after them; where no fourth is read, g is 0
abbrev pub as_job_line : Bool → List ℕ → ℕ → JobLine
as_job_line locks ks next =
    record { size = record { rows = field ks 0; columns = field ks 1; count = field ks 2; gap = field ks 3 }; locks = locks; next = next }

-- the job line of a version: its word, its fields, and whether its piece lines have a lock
abbrev pub version_line : List ℕ → List ℕ → Bool → List ℕ → Reading JobLine
version_line word ends locks text = onward (line_at word ends text 0) (λ ks next. got (as_job_line locks ks next) next)

-- the job line of any version: `job,1,W,L,n`, `job,2,W,L,n,g` or `job,3,W,L,n,g`
abbrev pub job_versions : List ℕ → Reading JobLine
job_versions text =
    or_else (version_line job_word three_fields false text)
    (or_else (version_line gap_word four_fields false text) (version_line lock_word four_fields true text))

-- a number out of range, then W × L above 65,536
abbrev pub job_line_causes : JobLine → List Cause
job_line_causes j =
    cause_in 1 out_of_range (not (numbers_in_range j.size))
    ∷ cause_in 1 sheet_too_large (ltb area_bound (j.size.rows * j.size.columns)) ∷ []

-- the job line
unfoldable pub job_line : List ℕ → Outcome JobLine
job_line text = formed 1 (job_versions text) (λ j next. unless (job_line_causes j) j)

-- ── a piece line ──

-- what a piece line says: its number i, l columns, w rows, the sum o of turns, the lock; and the position after it
pub record PieceLine : Type 0 where
  pub number : ℕ
  pub columns : ℕ
  pub rows : ℕ
  pub turns : ℕ
  pub lock : ℕ
  pub next : ℕ

-- the end bytes of a piece line's fields: i, l, w, o, and the lock where the version has it
abbrev pub piece_ends : Bool → List ℕ
piece_ends false = four_fields
piece_ends true = five_fields

-- the numbers i, l, w, o and the lock that are read, and the position after them; where no lock is read, it is 0, free
abbrev pub as_piece_line : List ℕ → ℕ → PieceLine
as_piece_line ks next =
    record { number = field ks 0; columns = field ks 1; rows = field ks 2; turns = field ks 3; lock = field ks 4; next = next }

-- the piece's number is i, its sides are in range, the sum of turns is odd and at most 15, and the lock is 0 or 1
abbrev pub piece_in_range : ℕ → PieceLine → Bool
piece_in_range i h = eqb h.number i && sides_in_range h.columns h.rows h.turns && leb h.lock lock_bound

-- the line of piece i, with the areas of the boxes before it: out of range, box longer or wider than the sheet, box areas so
-- far above 65,536
abbrev pub piece_line_causes : ℕ → JobLine → ℕ → ℕ → PieceLine → List Cause
piece_line_causes line j i area h =
    cause_in line out_of_range (not (piece_in_range i h))
    ∷ cause_in line box_too_large (ltb j.size.columns h.columns || ltb j.size.rows h.rows)
    ∷ cause_in line boxes_too_large (ltb area_bound (area + h.columns * h.rows)) ∷ []

-- the line of piece i at position p, `piece,i,l,w,o`, in version 3 `piece,i,l,w,o,k` with the lock k
unfoldable pub piece_line : List ℕ → JobLine → ℕ → ℕ → ℕ → ℕ → Outcome PieceLine
piece_line text j i area p line =
    formed line (line_at piece_word (piece_ends j.locks) text p)
    (λ ks next. unless (piece_line_causes line j i area (as_piece_line ks next)) (as_piece_line ks next))

-- ── row lines ──

-- the mark `#`, a pixel
abbrev pub pixel_mark : ℕ
pixel_mark = 35

-- the mark `.`, none
abbrev pub empty_mark : ℕ
empty_mark = 46

-- the pixel byte of a mark, `#` pixel, `.` none
unfoldable pub mark_at : List ℕ → ℕ → Reading ℕ
mark_at text p =
    elim (eqb (byte text p) pixel_mark)
    [ true ↦ got 1 (suc p) | false ↦ elim (eqb (byte text p) empty_mark) [ true ↦ got 0 (suc p) | false ↦ wrong ] ]

-- the pixel bytes of `left` marks from position p on
unfoldable pub marks_at : List ℕ → ℕ → ℕ → Reading (List ℕ)
marks_at text zero p = got [] p
marks_at text (suc left) p = onward (mark_at text p) (λ m q. onward (marks_at text left q) (λ ms r. got (m ∷ ms) r))

-- the pixel bytes of a row line at position p: `row,`, exactly l marks, byte 10
unfoldable pub row_at : List ℕ → ℕ → ℕ → Reading (List ℕ)
row_at text l p = after row_word text p (λ q. onward (marks_at text l q) (λ ms r. after (line_end ∷ []) text r (λ next. got ms next)))

-- pixel bytes, row by row, and the position after the lines that they stand in
pub record Rows : Type 0 where
  pub pixels : List ℕ
  pub next : ℕ

-- `left` row lines from position p on, the first of them on the given line
unfoldable pub rows_at : List ℕ → ℕ → ℕ → ℕ → ℕ → Outcome Rows
rows_at text l zero p line = given (record { pixels = []; next = p })
rows_at text l (suc left) p line =
    formed line (row_at text l p)
    (λ ms q. and_then (rows_at text l left q (suc line)) (λ r. given (record { pixels = ms ++ r.pixels; next = r.next })))

-- ── a piece ──

-- the pixels of a box of l columns and w rows, row by row, the first row y = 0
abbrev pub box_shape : ℕ → ℕ → List ℕ → Shape
box_shape l w pixels = record { columns = l; rows = w; has = λ x y. eqb (get_or pixels (y * l + x) 0) 1 }

-- what the lines of a piece say: its entry of the table and its pixel bytes; and the position after them
pub record PieceText : Type 0 where
  pub columns : ℕ
  pub rows : ℕ
  pub turns : ℕ
  pub lock : ℕ
  pub pixels : List ℕ
  pub next : ℕ

-- the box is loose: the place is the last row line, w lines after the piece line
abbrev pub rows_causes : ℕ → PieceLine → Rows → List Cause
rows_causes line h r = cause_in (line + h.rows) loose_box (not (tight (box_shape h.columns h.rows r.pixels))) ∷ []

-- the piece line and its row lines together
abbrev pub as_piece_text : PieceLine → Rows → PieceText
as_piece_text h r =
    record { columns = h.columns; rows = h.rows; turns = h.turns; lock = h.lock; pixels = r.pixels; next = r.next }

-- piece i at position p: its piece line, on the given line, and w row lines
unfoldable pub piece_at : List ℕ → JobLine → ℕ → ℕ → ℕ → ℕ → Outcome PieceText
piece_at text j i area p line =
    and_then (piece_line text j i area p line)
    (λ h.
    and_then (rows_at text h.columns h.rows h.next (suc line))
    (λ r. unless (rows_causes line h r) (as_piece_text h r)))

-- ── the pieces ──

-- the piece table and the pixel store, as far as pieces are read
pub record Pieces : Type 0 where
  pub table : List (List ℕ)
  pub pixels : List ℕ

-- none yet
abbrev pub no_pieces : Pieces
no_pieces = record { table = []; pixels = [] }

-- a piece in front of the later ones
abbrev pub with_piece : PieceText → Pieces → Pieces
with_piece h r =
    record { table = (h.columns ∷ h.rows ∷ h.turns ∷ h.lock ∷ []) ∷ r.table; pixels = h.pixels ++ r.pixels }

-- `left` pieces from number i on, the first at position p on the given line; nothing follows the last
unfoldable pub pieces_at : List ℕ → JobLine → ℕ → ℕ → ℕ → ℕ → ℕ → Outcome Pieces
pieces_at text j zero i area p line = unless (cause_in line wrong_form (not (eqb p (length text))) ∷ []) no_pieces
pieces_at text j (suc left) i area p line =
    and_then (piece_at text j i area p line)
    (λ h.
    and_then (pieces_at text j left (suc i) (area + h.columns * h.rows) h.next (suc (line + h.rows)))
    (λ r. given (with_piece h r)))

-- ── the job ──

-- the job with just the entries and pixel bytes that its text gives
abbrev pub as_lent : JobLine → Pieces → Lent
as_lent j r =
    record { size = j.size; table = r.table; pixels = r.pixels }

-- a lent buffer is shorter than needed
abbrev pub buffer_causes : ℕ → ℕ → Lent → List Cause
buffer_causes tableLength pixelsLength k =
    cause wrong_length (ltb tableLength k.size.count || ltb pixelsLength (length k.pixels)) ∷ []

-- reading a job from its text into a table and a pixel store of the given lengths
unfoldable pub read_job : List ℕ → ℕ → ℕ → Outcome Lent
read_job text tableLength pixelsLength =
    and_then (job_line text)
    (λ j.
    and_then (pieces_at text j j.size.count 0 0 j.next 2)
    (λ r. unless (buffer_causes tableLength pixelsLength (as_lent j r)) (as_lent j r)))
