-- `layout_read_calls::placement_line`: form first, then what its numbers give. Assumes nothing.
use Rattle.list_laws.proofs.Kit.{◌∙◌, ◌≡◌, sym, [], arith}
use Rattle.list_laws.proofs.Exits.{handed_on}
use Rattle.model.specs.Lent.{job_of, lent_by}
use Rattle.model.specs.Text.{wrong, got, four_fields, line_at, and_then}
use Rattle.model.specs.LayoutText.{at_word}
use Rattle.text_numbers.specs.Lines.{in_front}
use Rattle.layout_read_calls.specs.Readings.{place_on_line}
use Rattle.layout_read_calls.proofs.Lines.{line_wrong, line_placed, place_refused, place_placed}
use Rattle.layout_read_calls.proofs.placement_line.Goals as goal

pub returns-in_default : goal.returns-in_default
returns-in_default c =
    let a = c.args in
    let e : line_at at_word four_fields a.text.now a.p ≡ wrong = c.in_default.ensures.same in
    (λ pixels. rw (c.refused_in.ensures, line_wrong (job_of (lent_by a.size a.table.now pixels)) a.text.now a.i a.p a.line e), omega arith)

pub returns-in_err-place : goal.returns-in_err-place
returns-in_err-place c =
    let a = c.args in
    let read = c.in-Some.read in
    let ks = in_front read.numbers 4 [] in
    let e : line_at at_word four_fields a.text.now a.p ≡ got ks read.next = c.in-Some.ensures.same in
    rw (handed_on c.from_residual.result _ c.from_residual.ensures.1) (
      λ pixels.
          let j = job_of (lent_by a.size a.table.now pixels) in
          rw (
            line_placed j a.text.now a.i a.p a.line ks read.next e,
            place_refused (place_on_line j a.i a.line ks) _ (sym c.in_err-place.was ∙ c.placement_of.ensures pixels),
            and_then,
          ),
      omega arith,
    )

pub returns : goal.returns
returns c =
    let a = c.args in
    let read = c.in-Some.read in
    let ks = in_front read.numbers 4 [] in
    let e : line_at at_word four_fields a.text.now a.p ≡ got ks read.next = c.in-Some.ensures.same in (
      λ pixels.
          let j = job_of (lent_by a.size a.table.now pixels) in
          rw (
            line_placed j a.text.now a.i a.p a.line ks read.next e,
            place_placed (place_on_line j a.i a.line ks) _ (sym c.in_ok-place.was ∙ c.placement_of.ensures pixels),
            and_then,
          ),
      c.in-Some.ensures.inside,
    )
