-- `job_lines::piece_line`: form, then ranges. Assumes nothing.
use Rattle.list_laws.proofs.Kit.{◌∙◌, ◌≤◌, le_trans, arith, length}
use Rattle.list_laws.proofs.Exits.{handed_on}
use Rattle.job_lines.specs.Lines.{job_line_of, piece_line_of}
use Rattle.job_lines.proofs.Forms.{piece_line_refused, piece_line_ranged, piece_next_lem}
use Rattle.job_lines.proofs.piece_line.Goals as goal

pub returns-in_err-h : goal.returns-in_err-h
returns-in_err-h c =
    let a = c.args in
    rw (handed_on c.from_residual.result _ c.from_residual.ensures.1) (piece_line_refused (job_line_of a.j) a.i a.area a.line a.text.now a.p _ c.in_err-h.ensures.0, omega arith, tt)

pub returns : goal.returns
returns c =
    let a = c.args in
    let text = a.text.now in
    let h = c.in_ok-h.h in
    let n : h.next ≤ length text = c.in_ok-h.ensures.1 in (
      c.piece_ranges.ensures.0 ∙ piece_line_ranged (job_line_of a.j) a.i a.area a.line text a.p h c.in_ok-h.ensures.0,
      rw c.piece_ranges.ensures.0 (le_trans (piece_next_lem _ (piece_line_of h)) n),
      c.piece_ranges.ensures.1,
    )
