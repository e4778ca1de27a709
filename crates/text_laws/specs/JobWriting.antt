-- A lent job written as a job text (document 01, 'Job text'; document 02, points 4 and 6), and the job with just the entries and pixel
-- bytes that it needs. No call writes a job; the text says what a reader takes, and that every lent job that passes the check is one that
-- reading gives. Assumes nothing.
use Rattle.std.specs.Prelude.{Bool, true, false, List, [], ◌∷◌, ◌++◌, map, ◌⊎◌, ◌≡◌, ℕ, zero, suc, ◌+◌, ◌<◌, eqb, get_or, take}
use Rattle.model.specs.Lent.{Lent, entry_columns, entry_rows, entry_turns, entry_lock, pixel_start}
use Rattle.model.specs.Text.{line_end, three_fields, four_fields, line_text}
use Rattle.model.specs.JobText.{job_word, gap_word, lock_word, piece_word, piece_ends, row_word, pixel_mark, empty_mark}
use Rattle.model.specs.declared.JobSize.{JobSize}

-- n numbers of the list from place s on
abbrev pub bytes_part : List ℕ → ℕ → ℕ → List ℕ
bytes_part ks s zero = []
bytes_part ks s (suc n) = get_or ks s 0 ∷ bytes_part ks (suc s) n

-- the mark of a pixel byte
abbrev pub mark : ℕ → ℕ
mark b = elim (eqb b 1) [ true ↦ pixel_mark | false ↦ empty_mark ]

-- a row line
abbrev pub row_text : List ℕ → List ℕ
row_text row = row_word ++ (map mark row ++ (line_end ∷ []))

-- `left` row lines of l marks, from place s of the store on
unfoldable pub rows_text : List ℕ → ℕ → ℕ → ℕ → List ℕ
rows_text pixels l s zero = []
rows_text pixels l s (suc left) = row_text (bytes_part pixels s l) ++ rows_text pixels l (s + l) left

-- the numbers l, w, o and the lock of entry i
abbrev pub entry_fields : List (List ℕ) → ℕ → List ℕ
entry_fields table i = entry_columns table i ∷ entry_rows table i ∷ entry_turns table i ∷ entry_lock table i ∷ []

-- the lines of piece i, whose piece line has a lock or, the last number being left out, has none
abbrev pub piece_text : Bool → Lent → ℕ → List ℕ
piece_text locks k i =
    line_text piece_word (piece_ends locks) (i ∷ entry_fields k.table i)
    ++ rows_text k.pixels (entry_columns k.table i) (pixel_start k.table i) (entry_rows k.table i)

-- the lines of `left` pieces from number i on
unfoldable pub pieces_text : Bool → Lent → ℕ → ℕ → List ℕ
pieces_text locks k i zero = []
pieces_text locks k i (suc left) = piece_text locks k i ++ pieces_text locks k (suc i) left

-- the job line of version 1, which has no gap
abbrev pub plain_line : JobSize → List ℕ
plain_line size = line_text job_word three_fields (size.rows ∷ size.columns ∷ size.count ∷ [])

-- the job line of version 2
abbrev pub gap_line : JobSize → List ℕ
gap_line size = line_text gap_word four_fields (size.rows ∷ size.columns ∷ size.count ∷ size.gap ∷ [])

-- the job line of version 3, whose piece lines have locks
abbrev pub lock_line : JobSize → List ℕ
lock_line size = line_text lock_word four_fields (size.rows ∷ size.columns ∷ size.count ∷ size.gap ∷ [])

-- the line is a job line of these numbers: where its piece lines have locks that of version 3, else that of version 2, or that of version 1
-- where the gap is 0
abbrev pub SaysSize : JobSize → Bool → List ℕ → Type 0
SaysSize size true line = line ≡ lock_line size
SaysSize size false line = (line ≡ gap_line size) ⊎ ((line ≡ plain_line size) × (size.gap ≡ 0))

-- none of the job's pieces is locked
abbrev pub NoLock : Lent → Type 0
NoLock k = (i : ℕ) → i < k.size.count → entry_lock k.table i ≡ 0

-- the text of a lent job behind a job line, its piece lines with a lock or without
unfoldable pub job_text_behind : Bool → List ℕ → Lent → List ℕ
job_text_behind locks line k = line ++ pieces_text locks k 0 k.size.count

-- the text is one of the job's: behind a job line of its numbers, and without locks only where nothing is locked
pub record TextOf (text : List ℕ) (k : Lent) : Type 0 where
  pub locks : Bool
  pub line : List ℕ
  pub says : SaysSize k.size locks line
  pub unlocked : locks ≡ false → NoLock k
  pub written : text ≡ job_text_behind locks line k

-- its text in version 3, in which every job has one
abbrev pub job_text : Lent → List ℕ
job_text k = job_text_behind true (lock_line k.size) k

-- ── the job that the text gives ──

-- `left` entries from number i on
abbrev pub entries_from : List (List ℕ) → ℕ → ℕ → List (List ℕ)
entries_from table i zero = []
entries_from table i (suc left) = entry_fields table i ∷ entries_from table (suc i) left

-- the lent job without what lies beyond it in its buffers
abbrev pub exact_job : Lent → Lent
exact_job k =
    record {
      size = k.size;
      table = entries_from k.table 0 k.size.count;
      pixels = take (pixel_start k.table k.size.count) k.pixels;
    }
