-- `job_rows::fill_row`: the word, the marks, the line end. Assumes nothing.
use Rattle.list_laws.proofs.Kit.{◌∙◌, sym, ◌≡◌, ap, refl, ◌+◌, ℕ, eqb, rules}
use Rattle.model.specs.Text.{wrong}
use Rattle.model.specs.JobText.{marks_at, row_at}
use Rattle.job_rows.proofs.Marks.{row_not, row_none, row_last, stored_kept, stored_lost}
use Rattle.job_rows.proofs.fill_row.Statement.{statement}
use Rattle.job_rows.proofs.fill_row.Tie as tie

returns-then-not-word_at : tie.Need-returns-then-not-word_at
returns-then-not-word_at c =
    let at-start : tie.Start = search in
    let a = at-start.args in
    let text = a.text.now in
    let e : row_at text a.l a.p ≡ wrong = row_not text a.l a.p (sym c.before.word_at.ensures ∙ c.if-not-word_at.true) in
    rw e refl

shape_of-pixels-then-not-fill_marks : tie.Need-shape_of-pixels-then-not-fill_marks
shape_of-pixels-then-not-fill_marks c =
    let at-fill-marks : tie.After-fill_marks = search in
    at-fill-marks.fill_marks.auto.pixels

returns-then-not-fill_marks : tie.Need-returns-then-not-fill_marks
returns-then-not-fill_marks c =
    let at-fill-marks : tie.After-fill_marks = search in
    let at-else1 : tie.Else-not-word_at = search in
    let at-word-at : tie.After-word_at = search in
    let at-start : tie.Start = search in
    let a = at-start.args in
    let text = a.text.now in
    let m = stored_lost a.at a.pixels.now at-fill-marks.fill_marks.new.pixels _ (marks_at text a.l (a.p + 4))
    at-fill-marks.fill_marks.ensures c.if-not-fill_marks.true in
    let e : row_at text a.l a.p ≡ wrong = row_none text a.l a.p (sym at-word-at.word_at.ensures ∙ at-else1.if-not-word_at.false) m in
    rw e refl

shape_of-pixels : tie.Need-shape_of-pixels
shape_of-pixels c =
    let at-fill-marks : tie.After-fill_marks = search in
    at-fill-marks.fill_marks.auto.pixels

returns : tie.Need-returns
returns c =
    let at-fill-marks : tie.After-fill_marks = search in
    let at-else1 : tie.Else-not-word_at = search in
    let at-word-at : tie.After-word_at = search in
    let at-start : tie.Start = search in
    let a = at-start.args in
    let text = a.text.now in
    let k = stored_kept a.at a.pixels.now at-fill-marks.fill_marks.new.pixels _ (marks_at text a.l (a.p + 4))
    at-fill-marks.fill_marks.ensures c.before.if-not-fill_marks.false in
    row_last text a.l a.p (sym at-word-at.word_at.ensures ∙ at-else1.if-not-word_at.false) a.at a.pixels.now _ k _
    (ap (λ (b : ℕ). eqb b 10) c.byte_at.ensures)

pub fill_row_spec : {M : Type 1} → statement M
fill_row_spec =
    tie.close (tie.spec
    (search rules) returns-then-not-word_at (search rules) (search rules) shape_of-pixels-then-not-fill_marks returns-then-not-fill_marks
    (search rules) (search rules) (search rules) shape_of-pixels returns)
