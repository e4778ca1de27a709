-- `strip_paint::paint_strips`: the strips from a place on are the one read there and those behind it. Assumes nothing.
use Rattle.list_laws.proofs.Kit.{subst}
use Rattle.model.specs.Strip.{strip_has}
use Rattle.strip_check.proofs.Reading.{read_is}
use Rattle.strip_paint.specs.Paint.{Painted}
use Rattle.strip_paint.proofs.Painting.{paint_step, paint_end, strips_step, strips_none}
use Rattle.strip_paint.proofs.paint_strips.Goals as goal

pub loop-i-preserved : goal.loop-i-preserved
loop-i-preserved c =
    let a = c.args in
    let l = c.loop-i in
    paint_step (strips_step a.direction a.strips.now l.i c.loop-i-test.true)
    (subst (λ t. Painted a.columns (strip_has a.direction t) l.pixels c.paint_strip.new.pixels) (read_is c.strip_at.ensures) c.paint_strip.ensures)
    l.invariant

pub returns : goal.returns
returns c = paint_end (strips_none c.args.direction c.args.strips.now c.loop-i.i c.loop-i-test.false) c.loop-i.invariant
