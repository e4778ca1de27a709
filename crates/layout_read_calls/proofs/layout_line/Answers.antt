-- `layout_read_calls::layout_line`: form first, then the three numbers. Assumes nothing.
use Rattle.list_laws.proofs.Kit.{◌∙◌, sym, ◌≡◌, [], arith}
use Rattle.model.specs.Lent.{job_of, lent_by}
use Rattle.model.specs.Text.{wrong, got, three_fields, line_at}
use Rattle.model.specs.LayoutText.{layout_word}
use Rattle.text_numbers.specs.Lines.{in_front}
use Rattle.layout_read_calls.proofs.Lines.{layout_line_wrong, layout_line_unlike, layout_line_given}
use Rattle.layout_read_calls.proofs.layout_line.Goals as goal

pub returns-in_default : goal.returns-in_default
returns-in_default c =
    let a = c.args in
    let e : line_at layout_word three_fields a.text.now 0 ≡ wrong = c.in_default.ensures.same in
    (λ table pixels. rw (c.refused_in.ensures, layout_line_wrong (job_of (lent_by a.size table pixels)) a.text.now e), omega arith)

pub returns-then-not-same_sheet : goal.returns-then-not-same_sheet
unfolding job_of
returns-then-not-same_sheet c =
    let a = c.args in
    let read = c.in-Some.line in
    let ks = in_front read.numbers 3 [] in
    let e : line_at layout_word three_fields a.text.now 0 ≡ got ks read.next = c.in-Some.ensures.same in
    let unlike = sym c.same_sheet.ensures ∙ c.if-not-same_sheet.true in (
      λ table pixels.
          rw (
            c.refused_in-then-not-same_sheet.ensures,
            layout_line_unlike (job_of (lent_by a.size table pixels)) a.text.now ks read.next e unlike,
          ),
      omega arith,
    )

pub returns : goal.returns
unfolding job_of
returns c =
    let a = c.args in
    let read = c.in-Some.line in
    let ks = in_front read.numbers 3 [] in
    let e : line_at layout_word three_fields a.text.now 0 ≡ got ks read.next = c.in-Some.ensures.same in
    let like = sym c.same_sheet.ensures ∙ c.if-not-same_sheet.false in
    (λ table pixels. rw (layout_line_given (job_of (lent_by a.size table pixels)) a.text.now ks read.next e like), c.in-Some.ensures.inside)
