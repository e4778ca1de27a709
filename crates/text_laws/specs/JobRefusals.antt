-- Document 01, 'When a call says no', reading a job, in each version of document 02: "No number comes without its cause." For each number the
-- cause that its refusal has, on the line that the refusal's first place names. Every clause says of that line that the lines before it are
-- read, where it begins, what it is to be, and what is wrong with it. Assumes nothing.
use Rattle.std.specs.Prelude.{true, false, List, ◌⊎◌, ◌≡◌, ℕ, suc, ◌+◌, ◌*◌, ◌≤◌, ◌<◌, length}
use Rattle.model.specs.Piece.{tight}
use Rattle.model.specs.Refusal.{refused, given, wrong_form, out_of_range, sheet_too_large, boxes_too_large, loose_box, box_too_large, wrong_length}
use Rattle.model.specs.Lent.{Lent, area_bound, up_to, numbers_in_range}
use Rattle.model.specs.Text.{wrong, got, line_at}
use Rattle.model.specs.JobText.{piece_word, piece_ends, JobLine, job_versions, job_line, PieceLine, as_piece_line, piece_in_range, piece_line, row_at, Rows, rows_at}
use Rattle.model.specs.JobText.{box_shape}
use Rattle.model.specs.JobText.{PieceText, piece_at, read_job}
use Rattle.model.specs.declared.Refusal.{Refusal}
use Rattle.text_laws.specs.LinePlaces.{LineBegins, LineThere, refusal_on_line}

-- ── which line ──

-- so many row lines of l marks are read from position p on; the next begins at the last number's position
pub data RowsBefore (text : List ℕ) (l p : ℕ) : ℕ → ℕ → Type 0 where
  no_row : RowsBefore text l p 0 p
  row_then : {y q r : ℕ} {ms : List ℕ} → RowsBefore text l p y q → row_at text l q ≡ got ms r → RowsBefore text l p (suc y) r

-- so many pieces are read behind the job line: the areas of their boxes, and the position and the number of the next line
pub data PiecesBefore (text : List ℕ) (j : JobLine) : ℕ → ℕ → ℕ → ℕ → Type 0 where
  no_piece : PiecesBefore text j 0 0 j.next 2
  piece_then : {i area p line : ℕ} {h : PieceText} → PiecesBefore text j i area p line → piece_at text j i area p line ≡ given h
      → PiecesBefore text j (suc i) (area + h.columns * h.rows) h.next (suc (line + h.rows))

-- the line is the piece line of the piece of that number: the job line and the lines of the pieces before it are read, with the
-- areas of their boxes
pub record PiecePlace (text : List ℕ) (line : ℕ) : Type 0 where
  pub job : JobLine
  pub number : ℕ
  pub area : ℕ
  pub at : ℕ
  pub sheet : job_line text ≡ given job
  pub below : number < job.size.count
  pub before : PiecesBefore text job number area at line
  pub begins : LineBegins text line at

-- the line is a row line: its piece line, on the line `top`, and the rows before it are read
pub record RowPlace (text : List ℕ) (line : ℕ) : Type 0 where
  pub top : ℕ
  pub piece : PiecePlace text top
  pub head : PieceLine
  pub heads : piece_line text piece.job piece.number piece.area piece.at top ≡ given head
  pub row : ℕ
  pub below : row < head.rows
  pub at : ℕ
  pub before : RowsBefore text head.columns head.next row at
  pub numbered : line ≡ suc (top + row)
  pub begins : LineBegins text line at

-- the line is behind the last one: the job line and all pieces are read
pub record EndPlace (text : List ℕ) (line : ℕ) : Type 0 where
  pub job : JobLine
  pub area : ℕ
  pub at : ℕ
  pub sheet : job_line text ≡ given job
  pub before : PiecesBefore text job job.size.count area at line
  pub begins : LineBegins text line at

-- the line is the job line, and its numbers are read
pub record SheetNumbers (text : List ℕ) (line : ℕ) : Type 0 where
  pub first : line ≡ 1
  pub said : JobLine
  pub next : ℕ
  pub reads : job_versions text ≡ got said next

-- the line is a piece line, and its numbers are read
pub record PieceNumbers (text : List ℕ) (line : ℕ) : Type 0 where
  pub place : PiecePlace text line
  pub said : PieceLine
  pub numbers : List ℕ
  pub next : ℕ
  pub reads : line_at piece_word (piece_ends place.job.locks) text place.at ≡ got numbers next
  pub says : said ≡ as_piece_line numbers next

-- ── the causes ──

-- 1: the job line is of no version's form, a piece line is not of the version's form, a row line is not of its form, or a line is there that
-- is one too many
pub data JobFormWrong (text : List ℕ) (line : ℕ) : Type 0 where
  wrong_job_line : line ≡ 1 → job_versions text ≡ wrong → JobFormWrong text line
  wrong_piece_line : (a : PiecePlace text line) → line_at piece_word (piece_ends a.job.locks) text a.at ≡ wrong → JobFormWrong text line
  wrong_row_line : (a : RowPlace text line) → row_at text a.head.columns a.at ≡ wrong → JobFormWrong text line
  line_too_many : (a : EndPlace text line) → a.at < length text → JobFormWrong text line

-- 2: a number of the job line is out of range; or one of a piece line is, or i is not the piece's number, o is even or the lock is above 1
pub data JobOutOfRange (text : List ℕ) (line : ℕ) : Type 0 where
  sheet_out_of_range : (a : SheetNumbers text line) → numbers_in_range a.said.size ≡ false → JobOutOfRange text line
  piece_out_of_range : (a : PieceNumbers text line) → piece_in_range a.place.number a.said ≡ false → JobOutOfRange text line

-- 3: the numbers of the job line are in range, and W × L is above 65,536
pub record SheetTooLarge (text : List ℕ) (line : ℕ) : Type 0 where
  pub sheet : SheetNumbers text line
  pub ranges : numbers_in_range sheet.said.size ≡ true
  pub above : area_bound < sheet.said.size.rows * sheet.said.size.columns

-- 6: the numbers of the piece line are in range, and l is above L or w above W
pub record BoxTooLarge (text : List ℕ) (line : ℕ) : Type 0 where
  pub piece : PieceNumbers text line
  pub ranges : piece_in_range piece.place.number piece.said ≡ true
  pub above : (piece.place.job.size.columns < piece.said.columns) ⊎ (piece.place.job.size.rows < piece.said.rows)

-- 4: they are in range, the box fits the sheet, and the areas of the boxes so far, with this one, are above 65,536
pub record BoxesTooLarge (text : List ℕ) (line : ℕ) : Type 0 where
  pub piece : PieceNumbers text line
  pub ranges : piece_in_range piece.place.number piece.said ≡ true
  pub long : piece.said.columns ≤ piece.place.job.size.columns
  pub high : piece.said.rows ≤ piece.place.job.size.rows
  pub above : area_bound < piece.place.area + piece.said.columns * piece.said.rows

-- 5: the line is the last row of a piece, whose rows are all read, and the box is loose
pub record LooseBox (text : List ℕ) (line : ℕ) : Type 0 where
  pub last : RowPlace text line
  pub final : suc last.row ≡ last.head.rows
  pub rows : Rows
  pub reads : rows_at text last.head.columns last.head.rows last.head.next (suc last.top) ≡ given rows
  pub loose : tight (box_shape last.head.columns last.head.rows rows.pixels) ≡ false

-- 7: no line is named; the text is that of a job, which buffers of its size would take, and a buffer is shorter than that
pub record BufferShort (text : List ℕ) (tableLength pixelsLength line : ℕ) : Type 0 where
  pub unplaced : line ≡ 0
  pub job : Lent
  pub readable : read_job text job.size.count (length job.pixels) ≡ given job
  pub short : (tableLength < job.size.count) ⊎ (pixelsLength < length job.pixels)

-- ── a refusal ──

-- what is known of a refusal: its number is one of seven, each has its cause on the line that the first place names, the line
-- of each but 7 begins somewhere in the text, and the second place is 0
pub record JobRefusalClaims (text : List ℕ) (tableLength pixelsLength : ℕ) (r : Refusal) : Type 0 where
  pub numbers : up_to wrong_length r.number ≡ true
  pub form : r.number ≡ wrong_form → JobFormWrong text r.first
  pub range : r.number ≡ out_of_range → JobOutOfRange text r.first
  pub sheet : r.number ≡ sheet_too_large → SheetTooLarge text r.first
  pub boxes : r.number ≡ boxes_too_large → BoxesTooLarge text r.first
  pub loose : r.number ≡ loose_box → LooseBox text r.first
  pub box : r.number ≡ box_too_large → BoxTooLarge text r.first
  pub buffers : r.number ≡ wrong_length → BufferShort text tableLength pixelsLength r.first
  pub line : (r.number ≡ wrong_length → ⊥) → LineThere text r.first
  pub second : r.second ≡ 0

-- each cause leads to its refusal, so that a text has one of them at most, on one line
pub record JobCausesRefuse (text : List ℕ) (tableLength pixelsLength : ℕ) : Type 0 where
  pub form : (line : ℕ) → JobFormWrong text line → read_job text tableLength pixelsLength ≡ refused (refusal_on_line wrong_form line)
  pub range : (line : ℕ) → JobOutOfRange text line → read_job text tableLength pixelsLength ≡ refused (refusal_on_line out_of_range line)
  pub sheet : (line : ℕ) → SheetTooLarge text line → read_job text tableLength pixelsLength ≡ refused (refusal_on_line sheet_too_large line)
  pub boxes : (line : ℕ) → BoxesTooLarge text line → read_job text tableLength pixelsLength ≡ refused (refusal_on_line boxes_too_large line)
  pub loose : (line : ℕ) → LooseBox text line → read_job text tableLength pixelsLength ≡ refused (refusal_on_line loose_box line)
  pub box : (line : ℕ) → BoxTooLarge text line → read_job text tableLength pixelsLength ≡ refused (refusal_on_line box_too_large line)
  pub buffers : (line : ℕ) → BufferShort text tableLength pixelsLength line
      → read_job text tableLength pixelsLength ≡ refused (refusal_on_line wrong_length line)
