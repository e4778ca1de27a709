-- `layout_write_calls::write_layout` meets its contract: the first writing has no bytes to write to and tells the length. Assumes nothing.
use Rattle.list_laws.proofs.Exits.{handed_on}
use Rattle.list_laws.proofs.Kit.{◌∙◌, ◌≡◌, ap, sym, [], ◌<◌, ◌≤◌, length}
use Rattle.model.specs.Refusal.{refused}
use Rattle.model.specs.Lent.{lent_by, job_of}
use Rattle.model.specs.Buffer.{layout_of}
use Rattle.model.specs.LayoutText.{layout_text}
use Rattle.model.specs.Calls.{layout_causes, text_after, write_layout_call}
use Rattle.list_laws.proofs.Lists.{nothing_left}
use Rattle.list_laws.proofs.Stores.{sets_filled}
use Rattle.text_laws.proofs.Causes.{passed_none}
use Rattle.causes.proofs.Passed.{layout_laid}
use Rattle.layout_places.proofs.Fitting.{fitting}
use Rattle.model.specs.Answers.{count_answer}
use Rattle.layout_write_calls.proofs.Writes.{write_refused, write_short, write_given}
use Rattle.layout_write_calls.proofs.write_layout.Goals as goal

pub returns-in_err-layout_causes : goal.returns-in_err-layout_causes
returns-in_err-layout_causes c =
    let l = lent_by c.args.size c.args.table.now c.args.pixels.now in
    let o = write_refused l c.args.layout.now (length c.args.text.now) _ c.in_err-layout_causes.ensures in
    record { answer = handed_on _ _ c.from_residual.ensures.1 ∙ sym (ap count_answer o); memory = sym (ap (text_after c.args.text.now) o) }

pub put_layout-needed-requires : goal.put_layout-needed-requires
put_layout-needed-requires c =
    let l = lent_by c.args.size c.args.table.now c.args.pixels.now in
    let laid = layout_laid l c.args.layout.now (passed_none (layout_causes l c.args.layout.now) c.in_ok-layout_causes.ensures) in
    let f = fitting c.args.size c.args.table.now c.args.pixels.now laid.well in
    (f.few_rows, f.few_columns, f.few_pieces, laid.whole)

pub returns-then-short : goal.returns-then-short
returns-then-short c =
    let l = lent_by c.args.size c.args.table.now c.args.pixels.now in
    let part = c.put_layout-needed in
    let none : part.new.text ≡ [] = nothing_left _ part.auto.text in
    let long : length c.args.text.now < length (layout_text (job_of l) (layout_of c.args.layout.now)) =
    rw (none, (part.ensures c.args.table.now c.args.pixels.now).0) at c.if-short.true in
    let o : write_layout_call l c.args.layout.now (length c.args.text.now) ≡ refused c.plain_refusal.result =
    write_short l c.args.layout.now _ c.in_ok-layout_causes.ensures long ∙ sym (ap refused c.plain_refusal.ensures) in
    record { answer = sym (ap count_answer o); memory = rw none (sym (ap (text_after c.args.text.now) o)) }

pub put_layout-requires : goal.put_layout-requires
put_layout-requires c =
    let l = lent_by c.args.size c.args.table.now c.args.pixels.now in
    let laid = layout_laid l c.args.layout.now (passed_none (layout_causes l c.args.layout.now) c.in_ok-layout_causes.ensures) in
    let f = fitting c.args.size c.args.table.now c.args.pixels.now laid.well in
    (f.few_rows, f.few_columns, f.few_pieces, laid.whole)

pub returns : goal.returns
returns c =
    let l = lent_by c.args.size c.args.table.now c.args.pixels.now in
    let part = c.put_layout-needed in
    let none : part.new.text ≡ [] = nothing_left _ part.auto.text in
    let long : length (layout_text (job_of l) (layout_of c.args.layout.now)) ≤ length c.args.text.now =
    rw (none, (part.ensures c.args.table.now c.args.pixels.now).0) at c.if-short.false in
    let o = write_given l c.args.layout.now (length c.args.text.now) c.in_ok-layout_causes.ensures long in
    record {
      answer = rw (part.ensures c.args.table.now c.args.pixels.now).0 (sym (ap count_answer o));
      memory =
          rw none at (c.put_layout.ensures c.args.table.now c.args.pixels.now).1
          ∙ sets_filled c.args.text.now (layout_text (job_of l) (layout_of c.args.layout.now)) long ∙ sym (ap (text_after c.args.text.now) o);
    }
