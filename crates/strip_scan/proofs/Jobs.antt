-- The entries of a job's table as the code reads them. Assumes nothing.
use Rattle.list_laws.proofs.Kit.{List, ℕ}
use Rattle.model.specs.declared.Turn.{Turn}
use Rattle.job_laws.specs.Entries.{EntryAt}
use Rattle.piece_pixels.specs.Turned.{made_of, SmallPiece}

-- the turned piece of a table entry is small
pub made_small : (table : List (List ℕ)) (i start : ℕ) (t : Turn) → EntryAt table i start → SmallPiece (made_of table i start t)
made_small table i start t e = record { start = e.small; columns = e.columns; rows = e.rows }
