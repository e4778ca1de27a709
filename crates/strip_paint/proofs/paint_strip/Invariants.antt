-- `strip_paint::paint_strip`: the part of the strip from `at` on is still to be set. Assumes nothing.
use Rattle.model.specs.Strip.{strip_has}
use Rattle.strip_check.specs.Check.{as_strip}
use Rattle.strip_paint.proofs.Painting.{Painting, part_of}
use Rattle.strip_paint.proofs.paint_strip.Given as goal

abbrev pub invariant-loop-at : goal.invariant-loop-at
invariant-loop-at l =
    Painting l.columns (strip_has l.direction (as_strip l.strip)) l.initial.pixels l.pixels
    (strip_has l.direction (part_of (as_strip l.strip) l.at l.end))
