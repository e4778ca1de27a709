-- `job_rows::fill_few`: a mark is stored and the others are left, or the whole is of wrong form. Assumes nothing.
use Rattle.list_laws.proofs.Kit.{◌∙◌, ◌≡◌, ap, sym, ◌+◌, ◌-◌, suc, arith, set}
use Rattle.model.specs.Text.{byte, wrong, got}
use Rattle.model.specs.JobText.{mark_at, marks_at}
use Rattle.job_rows.specs.Stores.{mark_bit}
use Rattle.job_rows.proofs.Marks.{fill_marks, mark_read, mark_none, marks_more, marks_none, marks_end, stored_yes, stored_no}
use Rattle.job_rows.proofs.fill_few.Goals as goal

pub returns-then-bit-gt1 : goal.returns-then-bit-gt1
returns-then-bit-gt1 c =
    let a = c.args in
    let text = a.text.now in
    let l = c.loop-k in
    let b : c.mark_bit-bit.result ≡ mark_bit (byte text (a.p + l.k)) = c.mark_bit-bit.ensures ∙ ap mark_bit c.byte_at.ensures in
    let m : mark_at text (a.p + l.k) ≡ wrong = mark_none text (a.p + l.k) (rw (← b) c.if-bit-gt1.true) in
    let e : a.count - l.k ≡ suc (a.count - (l.k + 1)) = omega arith in
    let n : fill_marks text (a.count - l.k) (a.p + l.k) (a.at + l.k) l.pixels ≡ wrong =
    rw e (marks_none text (a.count - (l.k + 1)) (a.p + l.k) (a.at + l.k) l.pixels m) in
    stored_no a.at a.pixels.now l.pixels (marks_at text a.count a.p) (sym l.invariant ∙ n)

pub loop-k-preserved : goal.loop-k-preserved
loop-k-preserved c =
    let a = c.args in
    let text = a.text.now in
    let l = c.loop-k in
    let k = l.k in
    let bit = c.mark_bit-bit.result in
    let b : bit ≡ mark_bit (byte text (a.p + k)) = c.mark_bit-bit.ensures ∙ ap mark_bit c.byte_at.ensures in
    let m : mark_at text (a.p + k) ≡ got bit (suc (a.p + k)) = rw b (mark_read text (a.p + k) (rw (← b) c.if-bit-gt1.false)) in
    let e : a.count - k ≡ suc (a.count - (k + 1)) = omega arith in
    let s : fill_marks text (a.count - k) (a.p + k) (a.at + k) l.pixels
    ≡ fill_marks text (a.count - (k + 1)) (suc (a.p + k)) (suc (a.at + k)) (set l.pixels (a.at + k) bit) =
    rw e (marks_more text (a.count - (k + 1)) (a.p + k) (a.at + k) bit (suc (a.p + k)) l.pixels m) in
    let i : a.p + (k + 1) ≡ suc (a.p + k) = omega arith in
    let i' : a.at + (k + 1) ≡ suc (a.at + k) = omega arith in
    rw (i, i', c.put_byte.ensures.1) (sym s ∙ l.invariant)

pub returns : goal.returns
returns c =
    let a = c.args in
    let text = a.text.now in
    let l = c.loop-k in
    let e : a.count - l.k ≡ 0 = omega arith in
    let n : fill_marks text (a.count - l.k) (a.p + l.k) (a.at + l.k) l.pixels ≡ got l.pixels (a.p + l.k) =
    rw e (marks_end text (a.p + l.k) (a.at + l.k) l.pixels) in
    stored_yes a.at a.pixels.now l.pixels (a.p + l.k) (marks_at text a.count a.p) (sym l.invariant ∙ n)
