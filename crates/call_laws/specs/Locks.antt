-- Locks that are set (document 02, point 6), one call after another. The theorems are `locks_claims` and `shop_claims` in proofs/Locks.
-- Setting a lock is the one call beside reading a job that writes a piece table: every other call takes the table shared, so that the
-- compiler keeps it from writing there. What is said here of every list of such calls is so said of every list of calls that are lent the
-- job. Assumes nothing.
use Rattle.std.specs.Prelude.{Bool, true, false, ◌&&◌, ◌||◌, List, [], ◌∷◌, ◌≢◌, ◌≡◌, ℕ, ◌<◌, ◌≤◌, eqb, length, get_or}
use Rattle.model.specs.Layout.{is_locked}
use Rattle.model.specs.Lent.{Lent, lent_by, entry_columns, entry_rows, entry_turns, job_of, lent_well}
use Rattle.model.specs.Refusal.{given}
use Rattle.model.specs.Calls.{cutters_station, set_lock_call, locked_after}
use Rattle.model.specs.Cover.{Sheet, entry_in, Call, afterwards, sheet_well}
use Rattle.text_laws.specs.Texts.{Readable}
use Rattle.call_laws.specs.Sheets.{sheet_call}

-- a call that sets a lock: of which piece, and from which station
pub record LockCall : Type 0 where
  pub piece : ℕ
  pub station : ℕ

-- the call with its numbers
abbrev pub lock_call : ℕ → ℕ → LockCall
lock_call piece station = record { piece = piece; station = station }

-- the lent job after such a call, whose refusal leaves the table
abbrev pub after_lock : Lent → LockCall → Lent
after_lock l c = lent_by l.size (locked_after l.table (set_lock_call l c.piece c.station)) l.pixels

-- the lent job after a list of them
unfoldable pub after_locks : Lent → List LockCall → Lent
after_locks l [] = l
after_locks l (c ∷ cs) = after_locks (after_lock l c) cs

-- some call of the list names piece i from the cutter's station
unfoldable pub cutter_names : List LockCall → ℕ → Bool
cutter_names [] i = false
cutter_names (c ∷ cs) i = (eqb c.piece i && eqb c.station cutters_station) || cutter_names cs i

-- what a call that is given makes of the table of a job: the fourth number of its piece's entry is 1, and all else is as it was; another call
-- for the piece changes nothing
pub record LockGives (l : Lent) (i : ℕ) (table : List (List ℕ)) : Type 0 where
  pub piece : i < l.size.count
  pub entry : get_or table i [] ≡ entry_columns l.table i ∷ entry_rows l.table i ∷ entry_turns l.table i ∷ 1 ∷ []
  pub others : (m : ℕ) → m ≢ i → get_or table m [] ≡ get_or l.table m []
  pub entries : length table ≡ length l.table
  pub again : set_lock_call (lent_by l.size table l.pixels) i cutters_station ≡ given table

-- what is said of a lent job after the calls
pub record LocksClaims (l : Lent) (cs : List LockCall) (after : Lent) : Type 0 where
  -- W, L, n, g and the pixels are as they were, and the table has as many entries
  pub size : after.size ≡ l.size
  pub pixels : after.pixels ≡ l.pixels
  pub entries : length after.table ≡ length l.table
  -- every entry's columns, rows and turns are as they were
  pub columns : (i : ℕ) → entry_columns after.table i ≡ entry_columns l.table i
  pub rows : (i : ℕ) → entry_rows after.table i ≡ entry_rows l.table i
  pub turns : (i : ℕ) → entry_turns after.table i ≡ entry_turns l.table i
  -- what lies beyond the job's entries is as it was
  pub beyond : (i : ℕ) → l.size.count ≤ i → get_or after.table i [] ≡ get_or l.table i []
  -- of a job that passes its check, a piece is locked exactly where it was before or a call names it from the cutter's station: no call clears a
  -- lock, and none but these sets one
  pub locked : lent_well l ≡ true → (i : ℕ) → i < l.size.count → is_locked (job_of after) i ≡ (is_locked (job_of l) i || cutter_names cs i)
  -- it passes its check again, so that it is one that reading gives
  pub well : lent_well l ≡ true → lent_well after ≡ true
  pub readable : lent_well l ≡ true → Readable after
  -- a job that does not pass is as it was
  pub untouched : lent_well l ≡ false → after ≡ l

-- ── calls on a sheet, with locks set between them ──

-- a job and its sheet while it is cut
pub record Shop : Type 0 where
  pub job : Lent
  pub sheet : Sheet

-- a call on them: a lay or a withdraw, or a lock that is set
pub data ShopCall : Type 0 where
  sheet_called : Call → ShopCall
  lock_called : LockCall → ShopCall

-- what a call leaves, refused or not
abbrev pub after_shop_call : Shop → ShopCall → Shop
after_shop_call w (sheet_called c) = record { job = w.job; sheet = afterwards w.sheet (sheet_call w.job w.sheet c) }
after_shop_call w (lock_called c) = record { job = after_lock w.job c; sheet = w.sheet }

-- what a list of calls leaves
unfoldable pub after_shop_calls : Shop → List ShopCall → Shop
after_shop_calls w [] = w
after_shop_calls w (c ∷ cs) = after_shop_calls (after_shop_call w c) cs

-- the job passes its check and the sheet is one that some list of calls gives, so that each pixel's count is the number of laid pieces on it
pub record ShopWell (w : Shop) : Type 0 where
  pub job : lent_well w.job ≡ true
  pub sheet : sheet_well (job_of w.job) w.sheet ≡ true

-- what is said of them after the calls
pub record ShopClaims (w after : Shop) : Type 0 where
  -- they are well where they were
  pub well : ShopWell w → ShopWell after
  -- a locked piece stays locked
  pub locked : (i : ℕ) → is_locked (job_of w.job) i ≡ true → is_locked (job_of after.job) i ≡ true
  -- and where it is laid, it stays laid, at its place
  pub laid : (i : ℕ) → is_locked (job_of w.job) i ≡ true → (entry_in w.sheet.pieces i).laid ≡ true
      → entry_in after.sheet.pieces i ≡ entry_in w.sheet.pieces i
