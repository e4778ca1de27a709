-- `job_calls::reader::read_job`: the job line, then the pieces. Assumes nothing.
use Rattle.list_laws.proofs.Kit.{refl, subst, sym, length}
use Rattle.list_laws.proofs.Exits.{handed_on}
use Rattle.model.specs.JobText.{job_line, read_job}
use Rattle.job_lines.specs.Lines.{job_line_of}
use Rattle.job_calls.specs.Reading.{Leaves}
use Rattle.job_calls.proofs.Filling.{head_denied, head_told, job_denied, job_roomed, leaves_refused}
use Rattle.job_calls.proofs.reader.read_job.Goals as goal

pub returns-in_err-j : goal.returns-in_err-j
returns-in_err-j c =
    let a = c.args in
    let text = a.text.now in
    let tl = length a.table.now in
    let pl = length a.pixels.now in
    let e = job_denied text tl pl _ (head_denied c.in_err-j.field-0.0 (job_line text) c.in_err-j.ensures.0) in
    leaves_refused _ _ _ _ _ _ (read_job text tl pl) e (rw (handed_on c.from_residual.result _ c.from_residual.ensures.1) refl) refl refl

pub returns : goal.returns
returns c =
    let a = c.args in
    let text = a.text.now in
    let j = c.in_ok-j.j in
    let e = job_roomed text (length a.table.now) (length a.pixels.now) (job_line_of j) (head_told j (job_line text) c.in_ok-j.ensures.0) in
    subst (Leaves _ _ _ _ _) (sym e) c.read_pieces.ensures
