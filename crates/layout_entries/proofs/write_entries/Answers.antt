-- `layout_entries::write_entries`: one more entry written again, and what stands there after the last. Assumes nothing.
use Rattle.list_laws.proofs.Kit.{◌≡◌, arith, length}
use Rattle.layout_entries.proofs.Rewriting.{rewritten_step, rewritten_end}
use Rattle.layout_entries.proofs.write_entries.Goals as goal

pub loop-i-preserved : goal.loop-i-preserved
loop-i-preserved c =
    rw (c.entry_of.ensures, c.place_at.ensures) (rewritten_step c.args.layout.now c.loop-i.layout c.loop-i.i (omega arith) c.loop-i.invariant)

pub returns : goal.returns
returns c =
    let l = c.loop-i in
    let done : l.i ≡ length l.layout = omega (arith, l.auto.layout, l.auto.i-end, c.loop-i-test.false) in
    rewritten_end c.args.layout.now l.layout (rw done at l.invariant)
