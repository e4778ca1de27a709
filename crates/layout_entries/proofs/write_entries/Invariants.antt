-- `layout_entries::write_entries`: the entries passed are written again, and the layout is read as before. Assumes nothing.
use Rattle.layout_entries.proofs.Rewriting.{Rewritten}
use Rattle.layout_entries.proofs.write_entries.Given as goal

abbrev pub invariant-loop-i : goal.invariant-loop-i
invariant-loop-i l = Rewritten l.initial.layout l.layout l.i
