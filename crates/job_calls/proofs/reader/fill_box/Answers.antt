-- `job_calls::reader::fill_box`: the rows, then the box, whose pixels are those of the store. Assumes nothing.
use Rattle.list_laws.proofs.Kit.{◌∙◌, ◌≡◌, ap, subst, sym, false, true, ◌+◌, ◌≤◌, suc, add-one, arith, length}
use Rattle.model.specs.Piece.{tight}
use Rattle.model.specs.JobText.{rows_at, box_shape}
use Rattle.job_lines.specs.Lines.{piece_line_of}
use Rattle.job_rows.specs.Stores.{rows_answer, RowsStored}
use Rattle.job_calls.specs.Reading.{place_answer}
use Rattle.job_rows.proofs.Marks.{rows_facts}
use Rattle.job_calls.proofs.Filling.{rows_told, box_same, box_loose, box_given}
use Rattle.job_calls.proofs.reader.fill_box.Goals as goal

pub returns-then-not-box_tight : goal.returns-then-not-box_tight
returns-then-not-box_tight c =
    let a = c.args in
    let text = a.text.now in
    let h = a.h in
    let i : rows_at text h.columns h.rows h.next (a.line + 1) ≡ rows_at text h.columns h.rows h.next (suc a.line) =
    ap (rows_at text h.columns h.rows h.next) (add-one a.line) in
    let t = rows_told a.area a.pixels.now c.fill_rows.new.pixels c.in_ok-next.next (rows_at text h.columns h.rows h.next (suc a.line))
    (sym c.in_ok-next.was ∙ c.fill_rows.ensures.0 ∙ ap rows_answer i) (subst (RowsStored _ _ _) i c.fill_rows.ensures.1) in
    let r = t.lines in
    let f : tight (box_shape h.columns h.rows r.pixels) ≡ false =
    box_same text h.columns h.rows h.next (suc a.line) r c.requires.1.low c.requires.2.low t.gives
    ∙ sym c.box_tight.ensures ∙ c.if-not-box_tight.true in
    let e = box_loose text a.line (piece_line_of h) r t.gives f in
    (rw c.refusal.ensures (sym (ap (place_answer a.area a.line) e)), tt, rw e tt)

pub returns : goal.returns
returns c =
    let a = c.args in
    let text = a.text.now in
    let h = a.h in
    let i : rows_at text h.columns h.rows h.next (a.line + 1) ≡ rows_at text h.columns h.rows h.next (suc a.line) =
    ap (rows_at text h.columns h.rows h.next) (add-one a.line) in
    let next = c.in_ok-next.next in
    let t = rows_told a.area a.pixels.now c.fill_rows.new.pixels next (rows_at text h.columns h.rows h.next (suc a.line))
    (sym c.in_ok-next.was ∙ c.fill_rows.ensures.0 ∙ ap rows_answer i) (subst (RowsStored _ _ _) i c.fill_rows.ensures.1) in
    let r = t.lines in
    let f : tight (box_shape h.columns h.rows r.pixels) ≡ true =
    box_same text h.columns h.rows h.next (suc a.line) r c.requires.1.low c.requires.2.low t.gives
    ∙ sym c.box_tight.ensures ∙ c.if-not-box_tight.false in
    let e = box_given text a.line (piece_line_of h) r t.gives f in
    let n : next ≤ length text = rw t.after at ((rows_facts text h.columns h.rows h.next (suc a.line) r t.gives).inside c.requires.0) in
    (rw (← t.after) (sym (ap (place_answer a.area a.line) e)), (n, c.requires.3, omega (arith, c.requires.2.high)), rw e t.stores)
