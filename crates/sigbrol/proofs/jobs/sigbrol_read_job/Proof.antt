-- `sigbrol::jobs::sigbrol_read_job` meets its contract by what the answer tells. Assumes nothing.
use Rattle.list_laws.proofs.Kit.{◌∙◌, sym, length, rules}
use Rattle.model.specs.Lent.{Lent}
use Rattle.model.specs.Refusal.{Outcome}
use Rattle.model.specs.JobText.{read_job}
use Rattle.sigbrol.proofs.Told.{reply_by, leaves_by, size_in, job_told_lem}
use Rattle.sigbrol.proofs.jobs.sigbrol_read_job.Statement.{statement}
use Rattle.sigbrol.proofs.jobs.sigbrol_read_job.Tie as tie

-- the outcome of the call
outcome : tie.Start → Outcome Lent
outcome s = let a = s.args in read_job a.text.now (length a.table.now) (length a.pixels.now)

read_job-requires : tie.Need-read_job-requires
read_job-requires c κs = tt

enum_known-size : tie.Need-enum_known-size
enum_known-size c = search rules

put_size-requires : tie.Need-put_size-requires
put_size-requires c κs = tt

done-requires : tie.Need-done-requires
done-requires c κs = tt

enum_known-refusal : tie.Need-enum_known-refusal
enum_known-refusal c = search rules

refused-requires : tie.Need-refused-requires
refused-requires c κs = tt

shape_of-table-in-Ok : tie.Need-shape_of-table-in-Ok
shape_of-table-in-Ok c = let read : tie.After-read_job = search in read.read_job.auto.table

shape_of-pixels-in-Ok : tie.Need-shape_of-pixels-in-Ok
shape_of-pixels-in-Ok c = let read : tie.After-read_job = search in read.read_job.auto.pixels

returns-in-Ok : tie.Need-returns-in-Ok
unfolding outcome
returns-in-Ok c =
    let put : tie.After-put_size = search in
    let size : tie.In-Ok = search in
    let read : tie.After-read_job = search in
    let s : tie.Start = search in
    let o = outcome s in
    let l = read.read_job.ensures in
    let t = job_told_lem o (sym size.in-Ok.is ∙ l.answers) in
    let numbers = put.put_size.ensures in (
      c.done.ensures ∙ reply_by size_in o t,
      (
        l.entries,
        (
          l.pixels,
          (
            numbers.0 ∙ leaves_by size_in (λ s. s.rows) _ o t,
            (
              numbers.1.0 ∙ leaves_by size_in (λ s. s.columns) _ o t,
              (numbers.1.1.0 ∙ leaves_by size_in (λ s. s.count) _ o t, numbers.1.1.1 ∙ leaves_by size_in (λ s. s.gap) _ o t),
            ),
          ),
        ),
      ),
    )

shape_of-table-in-Err : tie.Need-shape_of-table-in-Err
shape_of-table-in-Err c = let read : tie.After-read_job = search in read.read_job.auto.table

shape_of-pixels-in-Err : tie.Need-shape_of-pixels-in-Err
shape_of-pixels-in-Err c = let read : tie.After-read_job = search in read.read_job.auto.pixels

returns-in-Err : tie.Need-returns-in-Err
unfolding outcome
returns-in-Err c =
    let why : tie.In-Err = search in
    let read : tie.After-read_job = search in
    let s : tie.Start = search in
    let o = outcome s in
    let l = read.read_job.ensures in
    let t = job_told_lem o (sym why.in-Err.is ∙ l.answers) in (
      c.refused.ensures ∙ reply_by size_in o t,
      (
        l.entries,
        (
          l.pixels,
          (
            leaves_by size_in (λ s. s.rows) _ o t,
            (leaves_by size_in (λ s. s.columns) _ o t, (leaves_by size_in (λ s. s.count) _ o t, leaves_by size_in (λ s. s.gap) _ o t)),
          ),
        ),
      ),
    )

pub sigbrol_read_job_spec : {M : Type 1} → statement M
sigbrol_read_job_spec =
    tie.close
    (tie.spec
    read_job-requires enum_known-size put_size-requires done-requires enum_known-refusal refused-requires shape_of-table-in-Ok
    shape_of-pixels-in-Ok returns-in-Ok shape_of-table-in-Err shape_of-pixels-in-Err returns-in-Err)
