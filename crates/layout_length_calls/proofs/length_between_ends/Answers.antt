-- `layout_length_calls::length_between_ends`: one more piece is passed, and after the last the ends are the layout's. Assumes nothing.
use Rattle.list_laws.proofs.Kit.{◌≡◌, refl, [], ◌≤◌, add-one, arith}
use Rattle.model.specs.Layout.{rightmost, leftmost, used_length}
use Rattle.model.specs.Lent.{job_of}
use Rattle.call_laws.proofs.Lengths.{ends_ordered}
use Rattle.layout_length_calls.proofs.length_between_ends.Goals as goal

pub loop-i-init : goal.loop-i-init
unfolding rightmost leftmost
loop-i-init c = (λ pixels. refl, c.left_end-first.ensures)

pub loop-i-preserved : goal.loop-i-preserved
unfolding rightmost leftmost
loop-i-preserved c =
    let i = c.loop-i.i in
    let h = c.loop-i.invariant in (
      λ pixels. rw (add-one i, c.max-last.ensures, c.right_end-right.ensures c.args.size pixels, h.0 pixels),
      rw (add-one i, c.min-first.ensures, c.left_end-left.ensures, h.1),
    )

pub overflow_sub-result : goal.overflow_sub-result
overflow_sub-result c =
    let l = c.loop-i in
    let ordered : l.first ≤ l.last = rw (l.invariant.0 [], l.invariant.1) (ends_ordered _ _ l.i (omega arith)) in
    omega arith

pub returns : goal.returns
unfolding used_length job_of
returns c = λ pixels.
    let l = c.loop-i in
    let all : l.i ≡ c.args.size.count = omega arith in
    rw (l.invariant.0 pixels, l.invariant.1, all)
