-- `search_marks::add_strips`: the strips before i are added. Assumes nothing.
use Rattle.search_levels.specs.Levels.{level_of}
use Rattle.search_marks.specs.Marks.{Made}
use Rattle.search_marks.proofs.add_strips.Given as goal

abbrev pub invariant-loop-i : goal.invariant-loop-i
invariant-loop-i l = Made l.fn.to (level_of l.marks l.size 0) l.es l.w l.up l.i l.to
