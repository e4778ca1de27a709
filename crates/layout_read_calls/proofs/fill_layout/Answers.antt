-- `layout_read_calls::fill_layout` meets its contract: the first reading has no buffer, the second fills it whole. Assumes nothing.
use Rattle.list_laws.proofs.Exits.{handed_on}
use Rattle.list_laws.proofs.Kit.{◌∙◌, ◌≡◌, ap, sym, [], length, length-map}
use Rattle.model.specs.Lent.{lent_by, job_of}
use Rattle.model.specs.Buffer.{entry_of, entries_of}
use Rattle.model.specs.LayoutText.{placements_at}
use Rattle.model.specs.Calls.{layout_after}
use Rattle.list_laws.proofs.Lists.{nothing_left}
use Rattle.list_laws.proofs.Stores.{sets_whole}
use Rattle.model.specs.Answers.{done_answer}
use Rattle.layout_read_calls.proofs.Whole.{layout_refused_lem, ReadGiven, layout_given, placements_count, from_refused, from_unlike, from_given}
use Rattle.layout_read_calls.proofs.fill_layout.Goals as goal

pub returns-in_err-read_placements : goal.returns-in_err-read_placements
returns-in_err-read_placements c =
    let a = c.args in
    let none : c.read_placements.new.layout ≡ [] = nothing_left _ c.read_placements.auto.layout in
    let e = handed_on _ _ c.from_residual.ensures.1 in
    λ pixels.
    let l = lent_by a.size a.table.now pixels in
    let o =
    from_refused l a.text.now a.p (length a.layout.now) _
    (layout_refused_lem (placements_at (job_of l) a.text.now a.size.count 0 a.p 2) _ (c.in_err-read_placements.ensures.answer pixels)) in
    (e ∙ sym (ap done_answer o), rw none (sym (ap (layout_after a.layout.now) o)))

pub returns-then-layout-size : goal.returns-then-layout-size
returns-then-layout-size c =
    let a = c.args in
    let none : c.read_placements.new.layout ≡ [] = nothing_left _ c.read_placements.auto.layout in
    λ pixels.
    let l = lent_by a.size a.table.now pixels in
    let v : ReadGiven (placements_at (job_of l) a.text.now a.size.count 0 a.p 2) = layout_given _ (c.in_ok-read_placements.ensures.answer pixels) in
    let unlike : length a.layout.now ≡ a.size.count → ⊥ = rw none at c.if-layout-size.true in
    let o = from_unlike l a.text.now a.p (length a.layout.now) v.layout v.gives unlike in
    (c.refused.ensures ∙ sym (ap done_answer o), rw none (sym (ap (layout_after a.layout.now) o)))

pub returns : goal.returns
returns c =
    let a = c.args in
    let none : c.read_placements.new.layout ≡ [] = nothing_left _ c.read_placements.auto.layout in
    λ pixels.
    let l = lent_by a.size a.table.now pixels in
    let v : ReadGiven (placements_at (job_of l) a.text.now a.size.count 0 a.p 2) = layout_given _ (c.in_ok-read_placements.ensures.answer pixels) in
    let like : length a.layout.now ≡ a.size.count = rw none at c.if-layout-size.false in
    let o = from_given l a.text.now a.p (length a.layout.now) v.layout v.gives like in
    let second = c.read_placements-2.ensures in
    let long : length (entries_of v.layout) ≡ length a.layout.now =
    length-map v.layout entry_of ∙ placements_count _ _ _ _ _ _ v.layout v.gives ∙ sym like in (
      second.answer pixels ∙ ap done_answer v.gives ∙ sym (ap done_answer o),
      rw none at (second.memory pixels v.layout v.gives) ∙ sets_whole (entries_of v.layout) a.layout.now long
          ∙ sym (ap (layout_after a.layout.now) o),
    )
