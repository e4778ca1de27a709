-- `layout_compact_calls::drawing::draw_all`: one more piece's strips are made, those made before stand, and after the last all are.
-- Assumes nothing.
use Rattle.list_laws.proofs.Kit.{◌≡◌, ⊎_elim, ◌<◌, arith}
use Rattle.list_laws.proofs.Numbers.{below_more}
use Rattle.layout_compact_calls.proofs.drawing.draw_all.Goals as goal

pub loop-i-preserved : goal.loop-i-preserved
loop-i-preserved c =
    let h = c.loop-i.invariant in
    let drawn = c.draw.ensures in
    let made = drawn.made in
    (drawn.kept, λ m l. ⊎_elim (λ (e : m ≡ c.loop-i.i). rw e made.0) (λ (b : m < c.loop-i.i). made.1 m (h.1 m b)) (below_more l))

pub returns : goal.returns
returns c = record { kept = c.loop-i.invariant.0; all = λ i b. c.loop-i.invariant.1 i (omega arith) }
