-- What demand 2 says of the cover counts, in the words of document 01, 'Start, layout text, sheet': which pieces are laid, and how many
-- lie on a pixel. The theorem is `demand2_cover` in proofs/Demand2Cover. Document 02, point 6, adds what locks mean for a sheet; proofs/Locks
-- has the theorems. Assumes nothing.
use Rattle.std.specs.Prelude.{◌&&◌, Bool, false, true, List, ◌≡◌, ℕ, ◌<◌, ◌+◌, ◌*◌, length, get_or}
use Rattle.std.proofs.Math.Option.{Option, none, some}
use Rattle.model.specs.Bounded.{sum_below, one_if}
use Rattle.model.specs.Piece.{Point, corner, covers}
use Rattle.model.specs.Layout.{Job, turned_piece, allowed, inside}
use Rattle.model.specs.Cover.{entry_in, Call, laying, withdrawing, fresh, last_taken, Sheet, laid_at, blank, laid_count, ends_laid, sheet_well}
use Rattle.model.specs.declared.Entry.{Entry}
use Rattle.model.specs.declared.Placement.{Placement}
use Rattle.model.specs.Lent.{Lent, lent_by, job_of, piece_bound}
use Rattle.model.specs.Calls.{with_lock}

-- the number of pieces that the record says are laid and that cover pixel q where they lie
unfoldable pub laid_pieces : Job → List Entry → Point → ℕ
laid_pieces j es q =
    sum_below j.size.count
    (λ i. one_if ((entry_in es i).laid && covers (turned_piece j i (entry_in es i).place.turn) (corner (entry_in es i).place) q))

-- piece i, whose last call that was not refused is the given one, lies on pixel q: the call is a lay there
abbrev pub lies_on : Job → ℕ → Point → Option Call → Bool
lies_on j i q none = false
lies_on j i q (some (laying m p)) = covers (turned_piece j i p.turn) (corner p) q
lies_on j i q (some (withdrawing m)) = false

-- the number of pieces that lie on pixel q after the calls, each by the last of its calls that was not refused
unfoldable pub lying_pieces : Job → List Call → Point → ℕ
lying_pieces j cs q = sum_below j.size.count (λ i. one_if (lies_on j i q (last_taken j (fresh j) i none cs)))

-- a laid piece: its last call that was not refused is a lay of it, its entry holds that lay's placement, and it is a piece of the job,
-- in an allowed turn and inside
pub record LaidPiece (j : Job) (cs : List Call) (s : Sheet) (i : ℕ) : Type 0 where
  pub place : Placement
  pub call : last_taken j (fresh j) i none cs ≡ some (laying i place)
  pub entry : entry_in s.pieces i ≡ laid_at place
  pub piece : i < j.size.count
  pub turn : allowed j i place.turn ≡ true
  pub within : inside j i place ≡ true

-- what demand 2 and document 01 say of the sheet s after the calls cs
pub record CoverHolds (j : Job) (cs : List Call) (s : Sheet) : Type 0 where
  -- one entry for each piece number and one count for each pixel
  pub entries : length s.pieces ≡ piece_bound
  pub pixels : length s.counts ≡ j.size.rows * j.size.columns
  -- the count of pixel (x, y), by the record
  pub counts : (x y : ℕ) → x < j.size.columns → y < j.size.rows
      → get_or s.counts (y * j.size.columns + x) 0 ≡ laid_pieces j s.pieces (record { x = x; y = y })
  -- the count of pixel (x, y), by the calls alone
  pub counts_by_calls : (x y : ℕ) → x < j.size.columns → y < j.size.rows
      → get_or s.counts (y * j.size.columns + x) 0 ≡ lying_pieces j cs (record { x = x; y = y })
  -- the count of the pixel with number k
  pub counts_by_number : (k : ℕ) → k < j.size.rows * j.size.columns → get_or s.counts k 0 ≡ laid_count j s.pieces k
  -- a piece is laid exactly when the last of its calls that was not refused is a lay
  pub laid : (i : ℕ) → (entry_in s.pieces i).laid ≡ ends_laid (last_taken j (fresh j) i none cs)
  -- a piece that is not laid has turn 0 and corner (0, 0), after a withdraw too
  pub unlaid : (i : ℕ) → (entry_in s.pieces i).laid ≡ false → entry_in s.pieces i ≡ blank
  -- a piece that is laid lies where that last lay put it
  pub placed : (i : ℕ) → (entry_in s.pieces i).laid ≡ true → LaidPiece j cs s i

-- ── locks (document 02, point 6) ──

-- with the lock of piece i set a sheet is one that some list of calls gives exactly where it was before: each count is the number of laid pieces on
-- its pixel while locks are set between calls
abbrev pub SheetsWithLocks : Lent → Type 0
SheetsWithLocks l = (i : ℕ) (s : Sheet) → sheet_well (job_of (lent_by l.size (with_lock l.table i) l.pixels)) s ≡ sheet_well (job_of l) s
