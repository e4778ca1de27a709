-- `job_lines::job_line`: form, then ranges. Assumes nothing.
use Rattle.list_laws.proofs.Kit.{◌∙◌, ◌≤◌, le_trans, arith, length}
use Rattle.list_laws.proofs.Exits.{handed_on}
use Rattle.job_lines.specs.Lines.{job_line_of}
use Rattle.job_lines.proofs.Forms.{job_line_refused, job_line_ranged, job_next}
use Rattle.job_lines.proofs.job_line.Goals as goal

pub returns-in_err-j : goal.returns-in_err-j
returns-in_err-j c =
    rw (handed_on c.from_residual.result _ c.from_residual.ensures.1) (job_line_refused c.args.text.now _ c.in_err-j.ensures.0, omega arith, omega arith)

pub returns : goal.returns
returns c =
    let text = c.args.text.now in
    let j = c.in_ok-j.j in
    let n : j.next ≤ length text = c.in_ok-j.ensures.1 in (
      c.job_ranges.ensures.0 ∙ job_line_ranged text j c.in_ok-j.ensures.0,
      rw c.job_ranges.ensures.0 (le_trans (job_next (job_line_of j)) n),
      c.job_ranges.ensures.1,
    )
