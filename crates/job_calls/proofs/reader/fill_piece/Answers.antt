-- `job_calls::reader::fill_piece`: the line, then entry and rows. Assumes nothing.
use Rattle.list_laws.proofs.Kit.{◌∙◌, ap, refl, subst, sym, set}
use Rattle.list_laws.proofs.Exits.{handed_on}
use Rattle.model.specs.JobText.{piece_line}
use Rattle.job_lines.specs.Lines.{job_line_of, piece_line_of}
use Rattle.job_calls.specs.Reading.{box_at, place_answer, PieceStored}
use Rattle.job_calls.proofs.Filling.{line_denied, line_told, piece_denied, piece_boxed, box_entered}
use Rattle.job_calls.proofs.reader.fill_piece.Goals as goal

pub returns-in_err-h : goal.returns-in_err-h
returns-in_err-h c =
    let a = c.args in
    let j = job_line_of a.j in
    let l = line_denied _ (piece_line a.text.now j a.i a.at.area a.at.next a.at.line) c.in_err-h.ensures.0 in
    let e = piece_denied a.text.now j a.i a.at.area a.at.next a.at.line _ l in
    rw (handed_on c.from_residual.result _ c.from_residual.ensures.1) (sym (ap (place_answer a.at.area a.at.line) e), tt, rw e tt)

pub returns : goal.returns
returns c =
    let a = c.args in
    let text = a.text.now in
    let j = job_line_of a.j in
    let h = c.in_ok-h.h in
    let l = line_told h (piece_line text j a.i a.at.area a.at.next a.at.line) c.in_ok-h.ensures.0 in
    let e = piece_boxed text j a.i a.at.area a.at.next a.at.line (piece_line_of h) l in
    let x = box_at text a.at.line (piece_line_of h) in
    let b = c.fill_box.ensures in
    let entered = c.put_entry.ensures ∙ ap (set a.table.now a.i) c.piece_entry.ensures in (
      b.0 ∙ sym (ap (place_answer a.at.area a.at.line) e),
      b.1,
      subst (PieceStored a.i a.at.area a.table.now _ a.pixels.now _) (sym e)
          (box_entered text a.at.line a.i a.at.area (piece_line_of h) a.table.now _ a.pixels.now _ x refl entered b.2),
    )
