-- `job_rows::fill_many`: a row that goes past the text, or has a byte that is no mark, is of wrong form; else each mark is stored. Assumes nothing.
use Rattle.list_laws.proofs.Kit.{◌∙◌, ◌≡◌, sym, ◌+◌, ◌-◌, ◌<◌, ◌≤◌, suc, ℕ, arith, length, ltb-true, ltb-false, set, ⊎_elim}
use Rattle.list_laws.proofs.Bounded.{any_witness, any_none}
use Rattle.list_laws.proofs.Numbers.{below_or}
use Rattle.model.specs.Text.{byte, got}
use Rattle.model.specs.JobText.{mark_at, marks_at}
use Rattle.job_rows.specs.Stores.{mark_bit}
use Rattle.job_rows.proofs.Marks.{fill_marks, mark_read, marks_more, marks_end, marks_past, marks_wrong, stored_no, stored_short, stored_yes}
use Rattle.job_rows.proofs.fill_many.Goals as goal

pub returns-then-text-past : goal.returns-then-text-past
returns-then-text-past c =
    let a = c.args in
    stored_short a.text.now a.p a.at a.count a.pixels.now c.if-text-past.true

pub returns-then-some_wrong : goal.returns-then-some_wrong
returns-then-some_wrong c =
    let a = c.args in
    let text = a.text.now in
    let w = any_witness a.count _ (sym c.some_wrong.ensures ∙ c.if-some_wrong.true) in
    stored_no a.at a.pixels.now a.pixels.now (marks_at text a.count a.p)
    (marks_wrong text a.count a.p a.at w.number a.pixels.now w.below (ltb-true 1 (mark_bit (byte text (a.p + w.number))) w.passing))

pub loop-k-preserved : goal.loop-k-preserved
loop-k-preserved c =
    let a = c.args in
    let text = a.text.now in
    let l = c.loop-k in
    let k = l.k in
    let bit = c.mark_bit.result in
    let none = any_none a.count _ (sym c.some_wrong.ensures ∙ c.if-some_wrong.false) k (omega arith) in
    let b : bit ≡ mark_bit (byte text (a.p + k)) = c.mark_bit.ensures in
    let m : mark_at text (a.p + k) ≡ got bit (suc (a.p + k)) = rw b (mark_read text (a.p + k) (ltb-false 1 (mark_bit (byte text (a.p + k))) none)) in
    let e : a.count - k ≡ suc (a.count - (k + 1)) = omega arith in
    let s : fill_marks text (a.count - k) (a.p + k) (a.at + k) l.pixels
    ≡ fill_marks text (a.count - (k + 1)) (suc (a.p + k)) (suc (a.at + k)) (set l.pixels (a.at + k) bit) =
    rw e (marks_more text (a.count - (k + 1)) (a.p + k) (a.at + k) bit (suc (a.p + k)) l.pixels m) in
    let i : a.p + (k + 1) ≡ suc (a.p + k) = omega arith in
    let i' : a.at + (k + 1) ≡ suc (a.at + k) = omega arith in
    rw (i, i') (sym s ∙ l.invariant)

pub returns : goal.returns
returns c =
    let a = c.args in
    let text = a.text.now in
    let l = c.loop-k in
    let good : (x : ℕ) → x < a.count - l.k → mark_bit (byte text (a.p + l.k + x)) ≤ 1 =
    λ x o.
    let i : a.p + (l.k + x) ≡ a.p + l.k + x = omega arith in
    rw (← i) (ltb-false 1 (mark_bit (byte text (a.p + (l.k + x)))) (any_none a.count _ (sym c.some_wrong.ensures ∙ c.if-some_wrong.false) (l.k + x) (omega arith))) in
    ⊎_elim (λ short.
    let room : length l.pixels ≤ a.at + l.k = omega arith in
    stored_yes a.at a.pixels.now l.pixels (a.p + l.k + (a.count - l.k)) (marks_at text a.count a.p)
    (sym l.invariant ∙ marks_past text (a.count - l.k) (a.p + l.k) (a.at + l.k) l.pixels good room))
    (λ all.
    let e : a.count - l.k ≡ 0 = omega arith in
    let n : fill_marks text (a.count - l.k) (a.p + l.k) (a.at + l.k) l.pixels ≡ got l.pixels (a.p + l.k) =
    rw e (marks_end text (a.p + l.k) (a.at + l.k) l.pixels) in
    stored_yes a.at a.pixels.now l.pixels (a.p + l.k) (marks_at text a.count a.p) (sym l.invariant ∙ n)) (below_or l.k a.count)
