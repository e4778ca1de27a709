-- `job_calls::reader::fill_pieces`: a piece is stored and the others are left, or the whole is refused for it. Assumes nothing.
use Rattle.list_laws.proofs.Kit.{◌∙◌, ◌≡◌, sym, ◌+◌, ◌-◌, suc, add-one, arith}
use Rattle.list_laws.proofs.Exits.{handed_on}
use Rattle.model.specs.Refusal.{refused, given, wrong_form}
use Rattle.model.specs.JobText.{piece_at, pieces_at}
use Rattle.job_lines.specs.Lines.{refusal_at, job_line_of}
use Rattle.job_calls.proofs.Filling.{fill_pieces, place_denied, pieces_denied, pieces_step, pieces_extra, pieces_end, pieces_given, pieces_refused}
use Rattle.job_calls.proofs.reader.fill_pieces.Goals as goal

pub returns-in_err-at : goal.returns-in_err-at
returns-in_err-at c =
    let a = c.args in
    let text = a.text.now in
    let j = job_line_of a.j in
    let l = c.loop-i in
    let s = c.in_err-at.field-0.0 in
    let n = place_denied l.at.area l.at.line s (piece_at text j l.i l.at.area l.at.next l.at.line) c.in_err-at.ensures.0 in
    let e : a.j.size.count - l.i ≡ suc (a.j.size.count - (l.i + 1)) = omega arith in
    let f : fill_pieces text j (a.j.size.count - l.i) l.i l.at.area l.at.next l.at.line l.table l.pixels ≡ refused s =
    rw e (pieces_denied text j (a.j.size.count - (l.i + 1)) l.i l.at.area l.at.next l.at.line l.table l.pixels s n) in
    rw (handed_on c.from_residual.result _ c.from_residual.ensures.1) (pieces_refused a.table.now _ a.pixels.now _ s (pieces_at text j a.j.size.count 0 0 a.j.next 2) (sym l.invariant.same ∙ f))

pub loop-i-preserved : goal.loop-i-preserved
loop-i-preserved c =
    let a = c.args in
    let text = a.text.now in
    let j = job_line_of a.j in
    let l = c.loop-i in
    let q = c.in_ok-at.at in
    let w = c.in_ok-at.ensures.1 in
    let e : a.j.size.count - l.i ≡ suc (a.j.size.count - suc l.i) = omega arith in
    let s : fill_pieces text j (a.j.size.count - l.i) l.i l.at.area l.at.next l.at.line l.table l.pixels
    ≡ fill_pieces text j (a.j.size.count - suc l.i) (suc l.i) q.area q.next q.line c.fill_piece.new.table c.fill_piece.new.pixels =
    rw e (pieces_step text j (a.j.size.count - suc l.i) l.i l.at.area l.at.next l.at.line l.table l.pixels q _ _ c.in_ok-at.ensures.0
    c.fill_piece.ensures.2) in
    record { inside = w.0; small = w.1; line = omega (arith, w.2, l.invariant.line); same = rw (add-one l.i) (sym s ∙ l.invariant.same) }

pub returns-then-at-text : goal.returns-then-at-text
returns-then-at-text c =
    let a = c.args in
    let text = a.text.now in
    let j = job_line_of a.j in
    let l = c.loop-i in
    let e : a.j.size.count - l.i ≡ 0 = omega arith in
    let f : fill_pieces text j (a.j.size.count - l.i) l.i l.at.area l.at.next l.at.line l.table l.pixels
    ≡ refused (refusal_at wrong_form l.at.line) =
    rw e (pieces_extra text j l.i l.at.area l.at.next l.at.line l.table l.pixels c.if-at-text.true) in
    rw c.refusal.ensures
    (pieces_refused a.table.now l.table a.pixels.now l.pixels (refusal_at wrong_form l.at.line)
    (pieces_at text j a.j.size.count 0 0 a.j.next 2) (sym l.invariant.same ∙ f))

pub returns : goal.returns
returns c =
    let a = c.args in
    let text = a.text.now in
    let j = job_line_of a.j in
    let l = c.loop-i in
    let e : a.j.size.count - l.i ≡ 0 = omega arith in
    let f : fill_pieces text j (a.j.size.count - l.i) l.i l.at.area l.at.next l.at.line l.table l.pixels
    ≡ given (record { table = l.table; pixels = l.pixels; area = l.at.area }) =
    rw e (pieces_end text j l.i l.at.area l.at.next l.at.line l.table l.pixels c.if-at-text.false) in
    pieces_given a.table.now l.table a.pixels.now l.pixels l.at.area (pieces_at text j a.j.size.count 0 0 a.j.next 2)
    (sym l.invariant.same ∙ f)
