-- `c_interface::record::record_of`: the entries passed are those that their numbers are. Assumes nothing.
use Rattle.c_interface.specs.Records.{entry_of_numbers}
use Rattle.c_interface.proofs.Mapped.{Mapped}
use Rattle.c_interface.proofs.record.record_of.Given as goal

abbrev pub invariant-loop-i : goal.invariant-loop-i
invariant-loop-i l = Mapped entry_of_numbers l.numbers l.pieces l.i
