-- `job_check::lent::box_tight` looks along the four lines of its definition, bottom, top, left and right. Assumes nothing.
use Rattle.list_laws.proofs.Kit.{◌∙◌, ◌≡◌, sym, false, true, ◌-◌, arith, rules}
use Rattle.model.specs.Piece.{tight, holds}
use Rattle.model.specs.declared.Direction.TheVariants.{Horizontal, Vertical}
use Rattle.job_check.specs.Boxes.{box_in}
use Rattle.job_check.proofs.Boxes.{row_marks, column_marks, last_row}
use Rattle.job_check.proofs.lent.box_tight.Statement.{statement}
use Rattle.job_check.proofs.lent.box_tight.Tie as tie

returns-then-not-some_mark : tie.Need-returns-then-not-some_mark
unfolding tight
returns-then-not-some_mark c =
    let at-start : tie.Start = search in
    let a = at-start.args in
    let s = box_in a.mark a.bytes.now a.start a.stride a.columns a.rows in
    let bottom : holds Horizontal s 0 ≡ false =
    sym (row_marks a.mark a.bytes.now a.start a.stride a.columns a.rows (0) _ (omega arith))
    ∙ sym c.before.some_mark.ensures ∙ c.if-not-some_mark.true in
    simp bottom

overflow_mul-rows : tie.Need-overflow_mul-rows
overflow_mul-rows c =
    let at-start : tie.Start = search in
    let a = at-start.args in
    let m = last_row a.rows a.stride (omega arith) (omega arith) in
    omega arith

overflow_add-start : tie.Need-overflow_add-start
overflow_add-start c =
    let at-start : tie.Start = search in
    let a = at-start.args in
    let m = last_row a.rows a.stride (omega arith) (omega arith) in
    omega arith

some_mark-requires-2 : tie.Need-some_mark-requires-2
some_mark-requires-2 c κs =
    let at-start : tie.Start = search in
    let a = at-start.args in
    let m = last_row a.rows a.stride (omega arith) (omega arith) in
    omega arith

returns-then-not-some_mark-2 : tie.Need-returns-then-not-some_mark-2
unfolding tight
returns-then-not-some_mark-2 c =
    let at-some-mark : tie.After-some_mark = search in
    let at-start : tie.Start = search in
    let a = at-start.args in
    let s = box_in a.mark a.bytes.now a.start a.stride a.columns a.rows in
    let bottom : holds Horizontal s 0 ≡ true =
    sym (row_marks a.mark a.bytes.now a.start a.stride a.columns a.rows (0) _ (omega arith))
    ∙ sym at-some-mark.some_mark.ensures ∙ c.before.before.if-not-some_mark.false in
    let top : holds Horizontal s (a.rows - 1) ≡ false =
    sym (row_marks a.mark a.bytes.now a.start a.stride a.columns a.rows (a.rows - 1) _ (omega arith))
    ∙ sym c.before.some_mark-2.ensures ∙ c.if-not-some_mark-2.true in
    simp (bottom, top)

returns-then-not-some_mark-3 : tie.Need-returns-then-not-some_mark-3
unfolding tight
returns-then-not-some_mark-3 c =
    let at-some-mark2 : tie.After-some_mark-2 = search in
    let at-else1 : tie.Else-not-some_mark = search in
    let at-some-mark : tie.After-some_mark = search in
    let at-start : tie.Start = search in
    let a = at-start.args in
    let s = box_in a.mark a.bytes.now a.start a.stride a.columns a.rows in
    let bottom : holds Horizontal s 0 ≡ true =
    sym (row_marks a.mark a.bytes.now a.start a.stride a.columns a.rows (0) _ (omega arith))
    ∙ sym at-some-mark.some_mark.ensures ∙ at-else1.if-not-some_mark.false in
    let top : holds Horizontal s (a.rows - 1) ≡ true =
    sym (row_marks a.mark a.bytes.now a.start a.stride a.columns a.rows (a.rows - 1) _ (omega arith))
    ∙ sym at-some-mark2.some_mark-2.ensures ∙ c.before.before.if-not-some_mark-2.false in
    let left : holds Vertical s 0 ≡ false =
    sym (column_marks a.mark a.bytes.now a.start a.stride a.columns a.rows (0) _ (omega arith))
    ∙ sym c.before.some_mark-3.ensures ∙ c.if-not-some_mark-3.true in
    simp (bottom, top, left)

returns : tie.Need-returns
unfolding tight
returns c =
    let at-else2 : tie.Else-not-some_mark-2 = search in
    let at-some-mark2 : tie.After-some_mark-2 = search in
    let at-else1 : tie.Else-not-some_mark = search in
    let at-some-mark : tie.After-some_mark = search in
    let at-start : tie.Start = search in
    let a = at-start.args in
    let s = box_in a.mark a.bytes.now a.start a.stride a.columns a.rows in
    let bottom : holds Horizontal s 0 ≡ true =
    sym (row_marks a.mark a.bytes.now a.start a.stride a.columns a.rows (0) _ (omega arith))
    ∙ sym at-some-mark.some_mark.ensures ∙ at-else1.if-not-some_mark.false in
    let top : holds Horizontal s (a.rows - 1) ≡ true =
    sym (row_marks a.mark a.bytes.now a.start a.stride a.columns a.rows (a.rows - 1) _ (omega arith))
    ∙ sym at-some-mark2.some_mark-2.ensures ∙ at-else2.if-not-some_mark-2.false in
    let left : holds Vertical s 0 ≡ true =
    sym (column_marks a.mark a.bytes.now a.start a.stride a.columns a.rows (0) _ (omega arith))
    ∙ sym c.before.before.some_mark-3.ensures ∙ c.before.if-not-some_mark-3.false in
    let right : c.some_mark-4.result ≡ holds Vertical s (a.columns - 1) =
    c.some_mark-4.ensures ∙ column_marks a.mark a.bytes.now a.start a.stride a.columns a.rows (a.columns - 1) _ (omega arith) in
    simp (bottom, top, left, right)

pub box_tight_spec : {M : Type 1} → statement M
box_tight_spec =
    tie.close (tie.spec
    (search rules) returns-then-not-some_mark (search rules) overflow_mul-rows overflow_add-start some_mark-requires-2 returns-then-not-some_mark-2
    (search rules) returns-then-not-some_mark-3 (search rules) (search rules) (search rules) returns)
