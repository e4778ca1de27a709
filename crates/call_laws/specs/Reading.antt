-- What reading a job leaves in the lent buffers (document 01, 'Job text'; document 02, point 6). The theorems are in proofs/Reading. Assumes nothing.
use Rattle.std.specs.Prelude.{true, List, ◌≡◌, ℕ, ◌<◌, length, take}
use Rattle.model.specs.Lent.{Lent, entry_turns, entry_lock, lent_shape, lent_well, pixel_start}
use Rattle.model.specs.JobText.{read_job}
use Rattle.model.specs.Calls.{table_after, store_after}
use Rattle.text_laws.specs.Texts.{Agree}

-- the job that stands in the lent buffers after a reading
abbrev pub job_left : List ℕ → List (List ℕ) → List ℕ → Lent → Lent
job_left text table pixels k =
    record {
      size = k.size;
      table = table_after table (read_job text (length table) (length pixels));
      pixels = store_after pixels (read_job text (length table) (length pixels));
    }

-- what is said of the job that a reading leaves, where it gave k
pub record JobLeft (k left : Lent) : Type 0 where
  -- it passes the check that every call makes of a lent job
  pub passes : lent_well left ≡ true
  -- its pieces have the boxes, the pixels, the turns and the locks that were read
  pub pieces : (i : ℕ) → i < k.size.count → Agree (lent_shape left i) (lent_shape k i)
  pub turns : (i : ℕ) → i < k.size.count → entry_turns left.table i ≡ entry_turns k.table i
  pub locks : (i : ℕ) → i < k.size.count → entry_lock left.table i ≡ entry_lock k.table i

-- the front of the lent buffers is the job that was read, entry by entry and byte by byte
pub record FrontRead (text : List ℕ) (table : List (List ℕ)) (pixels : List ℕ) (k : Lent) : Type 0 where
  pub entries : take k.size.count (table_after table (read_job text (length table) (length pixels))) ≡ k.table
  pub bytes : take (pixel_start k.table k.size.count) (store_after pixels (read_job text (length table) (length pixels))) ≡ k.pixels
