-- Document 02, point 6, locks and a sheet: the test of a sheet looks at no lock. Assumes nothing.
use Rattle.list_laws.proofs.Kit.{◌∙◌, ◌≡◌, ap, refl, sym, false, ℕ}
use Rattle.model.specs.Layout.{Job, inside}
use Rattle.model.specs.Lent.{Lent, lent_by, job_of}
use Rattle.model.specs.Cover.{Sheet, covers_pixel, laid_count, entry_well, sheet_well}
use Rattle.model.specs.Calls.{with_lock}
use Rattle.job_laws.proofs.Locks.{lock_shape, lock_turns}
use Rattle.cover_laws.specs.CoverClaims.{SheetsWithLocks}

-- the job with every piece free
abbrev freed : Job → Job
freed j = record { size = j.size; piece = λ i. record { shape = (j.piece i).shape; turns = (j.piece i).turns; locked = false } }

-- the test of a sheet looks at no lock
freed_sheet : (j : Job) (s : Sheet) → sheet_well (freed j) s ≡ sheet_well j s
unfolding sheet_well entry_well inside laid_count covers_pixel
freed_sheet j s = refl

-- a job with a lock set is the same job but for its locks
freed_lock : (l : Lent) (i : ℕ) → freed (job_of (lent_by l.size (with_lock l.table i) l.pixels)) ≡ freed (job_of l)
unfolding job_of
freed_lock l i = λ t.
    record { size = l.size; piece = λ m. record { shape = lock_shape l i t m; turns = lock_turns l.table i m t; locked = false } }

-- setting a lock makes no difference to the test of a sheet
pub sheets_with_locks_lem : (l : Lent) → SheetsWithLocks l
sheets_with_locks_lem l i s =
    let set : Job = job_of (lent_by l.size (with_lock l.table i) l.pixels) in
    sym (freed_sheet set s) ∙ ap (λ (j : Job). sheet_well j s) (freed_lock l i) ∙ freed_sheet (job_of l) s
