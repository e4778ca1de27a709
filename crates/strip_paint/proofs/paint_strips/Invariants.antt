-- `strip_paint::paint_strips`: the strips from `i` on are still to be set. Assumes nothing.
use Rattle.list_laws.proofs.Kit.{map, drop}
use Rattle.model.specs.Strip.{strips_have}
use Rattle.model.specs.Buffer.{entry_strip}
use Rattle.strip_paint.proofs.Painting.{Painting}
use Rattle.strip_paint.proofs.paint_strips.Given as goal

abbrev pub invariant-loop-i : goal.invariant-loop-i
invariant-loop-i l =
    Painting l.columns (strips_have l.direction (map entry_strip l.strips)) l.initial.pixels l.pixels
    (strips_have l.direction (drop l.i (map entry_strip l.strips)))
