-- `layout_pushes::push_each`: one more piece is pushed; what the pieces slid fits, and after the last the pass is done. Assumes nothing.
use Rattle.list_laws.proofs.Kit.{◌∙◌, ◌≡◌, ap, refl, sym, ℕ, arith}
use Rattle.model.specs.Compact.{Compacted, push_piece, push_below}
use Rattle.model.specs.Lent.{lent_by, job_of}
use Rattle.model.specs.Buffer.{layout_of, entries_of}
use Rattle.compact_laws.proofs.Rest.{piece_pushed, below_pushed}
use Rattle.layout_pushes.proofs.Pushing.{whole, pushable_after, slid_small, then_slid, then_layout, below_next}
use Rattle.layout_pushes.proofs.push_each.Goals as goal

pub loop-i-init : goal.loop-i-init
unfolding push_below
loop-i-init c = (c.requires, refl, sym c.requires.written)

pub overflow_add-slid : goal.overflow_add-slid
unfolding job_of
overflow_add-slid c =
    let a = c.args in
    let lent = lent_by a.size a.table.now a.pixels.now in
    let l = c.loop-i in
    let so_far = slid_small lent _ _ _ _ _ c.requires _ (below_pushed (job_of lent) l.i _ (whole lent _ _ _ _ _ c.requires) (omega arith)) in
    let more =
    slid_small lent _ _ _ _ _ l.invariant.0 _ (piece_pushed (job_of lent) l.i _ (whole lent _ _ _ _ _ l.invariant.0) c.loop-i-test.true) in
    omega (arith, so_far, more, l.invariant.1, c.push_piece-slid.ensures.slid)

pub loop-i-preserved : goal.loop-i-preserved
unfolding job_of
loop-i-preserved c =
    let a = c.args in
    let lent = lent_by a.size a.table.now a.pixels.now in
    let j = job_of lent in
    let v = layout_of a.layout.now in
    let l = c.loop-i in
    let h = l.invariant in
    let e = c.push_piece-slid.ensures in
    let next = below_next j l.i v in
    let pushed = piece_pushed j l.i _ (whole lent _ _ _ _ _ h.0) c.loop-i-test.true in (
      pushable_after lent _ _ _ _ _ h.0 _ pushed _ e.layout,
      then_slid (push_below j l.i v) (push_piece j l.i) _ _ _ _ h.1 h.2 e.slid e.layout ∙ sym (ap (λ (z : Compacted). z.slid) next),
      then_layout (push_below j l.i v) (push_piece j l.i) _ _ _ _ h.1 h.2 e.slid e.layout ∙ sym (ap (λ (z : Compacted). entries_of z.layout) next),
    )

pub returns : goal.returns
unfolding job_of
returns c =
    let a = c.args in
    let j = job_of (lent_by a.size a.table.now a.pixels.now) in
    let v = layout_of a.layout.now in
    let all : c.loop-i.i ≡ a.size.count = omega arith in
    record {
      slid = c.loop-i.invariant.1 ∙ ap (λ (n : ℕ). (push_below j n v).slid) all;
      layout = c.loop-i.invariant.2 ∙ ap (λ (n : ℕ). entries_of (push_below j n v).layout) all;
    }
