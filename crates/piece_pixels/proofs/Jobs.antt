-- A job's pieces as the code reads them out of the table and the pixel store: a checked job's pieces are small, and the store has all
-- their pixels. Assumes nothing.
use Rattle.list_laws.proofs.Kit.{◌≡◌, ap, true, List, ◌<◌, ℕ, mul_comm, arith}
use Rattle.model.specs.Layout.{turned_piece}
use Rattle.model.specs.Lent.{Lent, lent_by, job_of, lent_well, entry_columns, entry_rows, pixel_start}
use Rattle.model.specs.declared.Turn.{Turn}
use Rattle.model.specs.declared.JobSize.{JobSize}
use Rattle.job_laws.proofs.Checked.{Facts, facts}
use Rattle.piece_pixels.specs.Turned.{made_of, shown_by, SmallPiece, PixelStored}

-- the turned piece of a table entry shows the job's piece in the turn
pub shown_piece : (size : JobSize) (table : List (List ℕ)) (pixels : List ℕ) (i start : ℕ) (t : Turn) → start ≡ pixel_start table i
    → shown_by pixels (made_of table i start t) ≡ turned_piece (job_of (lent_by size table pixels)) i t
unfolding job_of
shown_piece size table pixels i start t e = ap (λ k. shown_by pixels (made_of table i k t)) e

-- a piece of a job that passes the check is small
pub entry_small : (l : Lent) (i : ℕ) (t : Turn) → lent_well l ≡ true → i < l.size.count → SmallPiece (made_of l.table i (pixel_start l.table i) t)
entry_small l i t e h =
    let f : Facts l = facts l e in
    let a = f.ends i h in
    let b = f.areas in
    record { start = omega arith; columns = f.columns_small i h; rows = f.rows_small i h }

-- its store has all its pixels
pub entry_stored : (l : Lent) (i : ℕ) (t : Turn) → lent_well l ≡ true → i < l.size.count
    → PixelStored l.pixels (made_of l.table i (pixel_start l.table i) t)
entry_stored l i t e h =
    let f : Facts l = facts l e in
    let a = f.ends i h in
    let b = f.store in
    let c = mul_comm (entry_rows l.table i) (entry_columns l.table i) in
    record { small = entry_small l i t e h; held = omega arith }
