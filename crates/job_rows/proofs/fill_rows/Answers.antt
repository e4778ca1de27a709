-- `job_rows::fill_rows`: a row is stored and the others are left, or the whole is refused for it. Assumes nothing.
use Rattle.list_laws.proofs.Kit.{◌∙◌, ◌≡◌, ap, sym, ◌*◌, ◌+◌, ◌-◌, ◌≤◌, suc, ℕ, mul-le-mul, suc-mul, arith}
use Rattle.model.specs.Refusal.{refused, wrong_form}
use Rattle.model.specs.Text.{wrong}
use Rattle.model.specs.JobText.{row_at, rows_at}
use Rattle.job_lines.specs.Lines.{refusal_at}
use Rattle.job_rows.proofs.Marks.{fill_rows, stored_kept, stored_lost, row_step, row_inside, rows_none, rows_end, rows_given, rows_refused}
use Rattle.job_rows.proofs.fill_rows.Goals as goal

pub overflow_mul-first : goal.overflow_mul-first
overflow_mul-first c =
    let y : c.loop-y.y ≤ 255 = omega arith in
    let l : c.args.l ≤ 255 = omega arith in
    let m = mul-le-mul y l in
    omega arith

pub overflow_add-first : goal.overflow_add-first
overflow_add-first c =
    let y : c.loop-y.y ≤ 255 = omega arith in
    let l : c.args.l ≤ 255 = omega arith in
    let m = mul-le-mul y l in
    omega arith

pub fill_row-requires : goal.fill_row-requires
fill_row-requires c =
    let y : c.loop-y.y ≤ 255 = omega arith in
    let l : c.args.l ≤ 255 = omega arith in
    let m = mul-le-mul y l in
    omega arith

pub returns-then-not-fill_row : goal.returns-then-not-fill_row
returns-then-not-fill_row c =
    let a = c.args in
    let text = a.text.now in
    let l = c.loop-y in
    let n : row_at text a.l l.next ≡ wrong =
    stored_lost (a.at + l.y * a.l) l.pixels _ _ (row_at text a.l l.next) c.fill_row.ensures c.if-not-fill_row.true in
    let e : a.w - l.y ≡ suc (a.w - (l.y + 1)) = omega arith in
    let f : fill_rows text a.l (a.w - l.y) l.next (a.line + l.y) (a.at + l.y * a.l) l.pixels ≡ refused (refusal_at wrong_form (a.line + l.y)) =
    ap (λ (k : ℕ). fill_rows text a.l k l.next (a.line + l.y) (a.at + l.y * a.l) l.pixels) e
    ∙ rows_none text a.l (a.w - (l.y + 1)) l.next (a.line + l.y) (a.at + l.y * a.l) l.pixels n in
    rw c.refusal.ensures
    (rows_refused a.at a.pixels.now _ (refusal_at wrong_form (a.line + l.y)) (rows_at text a.l a.w a.p a.line) (sym l.invariant.same ∙ f))

pub loop-y-preserved : goal.loop-y-preserved
loop-y-preserved c =
    let a = c.args in
    let text = a.text.now in
    let l = c.loop-y in
    let y = l.y in
    let k = stored_kept (a.at + y * a.l) l.pixels c.fill_row.new.pixels _ (row_at text a.l l.next) c.fill_row.ensures c.if-not-fill_row.false in
    let e : a.w - y ≡ suc (a.w - suc y) = omega arith in
    let i : y + 1 ≡ suc y = omega arith in
    let m : a.line + suc y ≡ suc (a.line + y) = omega arith in
    let o : a.at + suc y * a.l ≡ a.at + y * a.l + a.l = omega (arith, suc-mul y a.l) in
    let s : fill_rows text a.l (a.w - y) l.next (a.line + y) (a.at + y * a.l) l.pixels
    ≡ fill_rows text a.l (a.w - suc y) (l.next + (a.l + 5)) (suc (a.line + y)) (a.at + y * a.l + a.l) c.fill_row.new.pixels =
    ap (λ (k : ℕ). fill_rows text a.l k l.next (a.line + y) (a.at + y * a.l) l.pixels) e
    ∙ row_step text a.l l.next (a.at + y * a.l) l.pixels _ k (a.w - suc y) (a.line + y) in
    record { inside = row_inside text a.l l.next (a.at + y * a.l) l.pixels _ k; same = rw (i, m, o) (sym s ∙ l.invariant.same) }

pub returns : goal.returns
returns c =
    let a = c.args in
    let text = a.text.now in
    let l = c.loop-y in
    let e : a.w - l.y ≡ 0 = omega arith in
    let f = ap (λ (k : ℕ). fill_rows text a.l k l.next (a.line + l.y) (a.at + l.y * a.l) l.pixels) e in
    rows_given a.at a.pixels.now l.pixels l.next (rows_at text a.l a.w a.p a.line)
    (sym l.invariant.same ∙ f ∙ rows_end text a.l l.next (a.line + l.y) (a.at + l.y * a.l) l.pixels)
