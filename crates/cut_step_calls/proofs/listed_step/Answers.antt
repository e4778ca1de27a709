-- `listed_step`: the lines are refused by 12, or all of them stand in front of the buffer, and the step is read from there. Assumes nothing.
use Rattle.list_laws.proofs.Exits.{handed_on}
use Rattle.list_laws.proofs.Kit.{◌∙◌, ◌≡◌, ap, sym, List, map, ℕ, arith, length, take}
use Rattle.list_laws.proofs.Lists.{front_length}
use Rattle.model.specs.Lent.{lent_by, job_of}
use Rattle.model.specs.Buffer.{layout_of, filled}
use Rattle.model.specs.Cut.{cut_lines, line_entry, entry_line}
use Rattle.model.specs.Calls.{lines_after}
use Rattle.cut_step_calls.specs.Answers.{step_answer}
use Rattle.cut_step_calls.proofs.Steps.{lines_left, lines_most, lines_told, count_refused, shared_refused, lines_back}
use Rattle.cut_step_calls.proofs.listed_step.Goals as goal

pub returns-in_err-count : goal.returns-in_err-count
returns-in_err-count c =
    let l = lent_by c.args.size c.args.table.now c.args.pixels.now in
    let o = lines_left l c.args.layout.now c.requires.0 (length c.args.lines.now) c.requires.1 in
    let no = count_refused _ _ c.in_err-count.ensures.answer in
    handed_on _ _ c.from_residual.ensures.1
    ∙ sym (ap step_answer (shared_refused l c.args.layout.now c.args.pitch c.args.step _ (sym o ∙ no)))

pub slice_bounds-step_of-end : goal.slice_bounds-step_of-end
slice_bounds-step_of-end c =
    let l = lent_by c.args.size c.args.table.now c.args.pixels.now in
    let most = lines_most l c.args.layout.now c.requires.0 in
    let count = (lines_told l c.args.layout.now c.requires.0 _ _ c.requires.1 c.in_ok-count.ensures.answer).count in
    let same = c.cut_lines.auto.lines in
    let room = c.requires.1 in omega arith

pub slice_bounds-step_of-end-2 : goal.slice_bounds-step_of-end-2
slice_bounds-step_of-end-2 c = front_length _ c.cut_lines.new.lines (slice_bounds-step_of-end c)

pub returns : goal.returns
returns c =
    let l = lent_by c.args.size c.args.table.now c.args.pixels.now in
    let ls = cut_lines (job_of l) (layout_of c.args.layout.now) in
    let t = lines_told l c.args.layout.now c.requires.0 _ _ c.requires.1 c.in_ok-count.ensures.answer in
    let stored = c.cut_lines.new.lines in
    let after : stored ≡ filled (map line_entry ls) c.args.lines.now =
    c.in_ok-count.ensures.memory ∙ ap (lines_after c.args.lines.now) t.lines in
    let read : map entry_line (take c.in_ok-count.count stored) ≡ ls =
    ap (λ (es : List (List ℕ)). map entry_line (take c.in_ok-count.count es)) after ∙ lines_back ls c.args.lines.now _ t.count in
    rw (c.step_of.ensures.is, read) (sym (ap step_answer (t.step c.args.pitch c.args.step)))
