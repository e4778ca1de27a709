-- `layout_read_calls::read_placements`: a line is one placement more, or the whole is refused for it. Assumes nothing.
use Rattle.list_laws.proofs.Exits.{handed_on}
use Rattle.list_laws.proofs.Kit.{◌∙◌, ◌≡◌, ap, sym, List, ℕ, arith}
use Rattle.model.specs.Layout.{Layout}
use Rattle.model.specs.Refusal.{refused, given}
use Rattle.model.specs.Lent.{job_of, lent_by}
use Rattle.model.specs.LayoutText.{placements_at, placement_line}
use Rattle.text_laws.proofs.Outcomes.{refused_given}
use Rattle.model.specs.Answers.{done_answer}
use Rattle.layout_read_calls.proofs.Lines.{line_refused, line_read_lem}
use Rattle.layout_read_calls.proofs.Progress.{progress_more, progress_refused, progress_extra, progress_end, given_same}
use Rattle.layout_read_calls.proofs.read_placements.Goals as goal

pub returns-in_err-read : goal.returns-in_err-read
returns-in_err-read c =
    let a = c.args in
    let l = c.loop-i in
    let whole : (pixels : List ℕ)
    → placements_at (job_of (lent_by a.size a.table.now pixels)) a.text.now a.size.count 0 a.p 2 ≡ refused c.in_err-read.field-0.0 =
    λ pixels.
    progress_refused (λ pixels. job_of (lent_by a.size a.table.now pixels)) a.size.count a.text.now a.p a.layout.now l.layout l.at l.line l.i
    l.invariant.progress c.loop-i-test.true _ pixels
    (line_refused (placement_line (job_of (lent_by a.size a.table.now pixels)) a.text.now l.i l.at l.line) _ (c.in_err-read.ensures.0 pixels)) in
    let e = handed_on _ _ c.from_residual.ensures.1 in
    record { answer = λ pixels. e ∙ sym (ap done_answer (whole pixels)); memory = λ pixels v told. absurd (refused_given (sym (whole pixels) ∙ told)) }

pub loop-i-preserved : goal.loop-i-preserved
loop-i-preserved c =
    let a = c.args in
    let l = c.loop-i in
    let read = c.in_ok-read.read in
    record {
      inside = c.in_ok-read.ensures.1;
      line = omega arith;
      progress =
          rw c.set_entry.ensures
          (progress_more (λ pixels. job_of (lent_by a.size a.table.now pixels)) a.size.count a.text.now a.p a.layout.now l.layout l.at l.line l.i
          l.invariant.progress c.loop-i-test.true read.place read.next
          (λ pixels.
          line_read_lem (placement_line (job_of (lent_by a.size a.table.now pixels)) a.text.now l.i l.at l.line) read
          (c.in_ok-read.ensures.0 pixels)));
    }

pub returns-then-more : goal.returns-then-more
returns-then-more c =
    let a = c.args in
    let l = c.loop-i in
    let whole : (pixels : List ℕ)
    → placements_at (job_of (lent_by a.size a.table.now pixels)) a.text.now a.size.count 0 a.p 2 ≡ refused c.refused_in.result =
    λ pixels.
    rw c.refused_in.ensures
    (progress_extra (λ pixels. job_of (lent_by a.size a.table.now pixels)) a.size.count a.text.now a.p a.layout.now l.layout l.at l.line l.i
    l.invariant.progress c.loop-i-test.false c.if-more.true pixels) in
    record { answer = λ pixels. sym (ap done_answer (whole pixels)); memory = λ pixels v e. absurd (refused_given (sym (whole pixels) ∙ e)) }

pub returns : goal.returns
returns c =
    let a = c.args in
    let l = c.loop-i in
    let whole : (pixels : List ℕ)
    → placements_at (job_of (lent_by a.size a.table.now pixels)) a.text.now a.size.count 0 a.p 2 ≡ given l.invariant.progress.front =
    progress_end (λ pixels. job_of (lent_by a.size a.table.now pixels)) a.size.count a.text.now a.p a.layout.now l.layout l.at l.line l.i
    l.invariant.progress c.loop-i-test.false c.if-more.false in
    record {
      answer = λ pixels. sym (ap done_answer (whole pixels));
      memory = λ pixels v e.
          let same : ◌≡◌ {A = Layout} l.invariant.progress.front v = given_same (sym (whole pixels) ∙ e) in
          rw same at l.invariant.progress.memory;
    }
