-- `c_interface::record::record_numbers`: the entries passed are written as their numbers. Assumes nothing.
use Rattle.c_interface.specs.Records.{entry_numbers}
use Rattle.c_interface.proofs.Mapped.{Mapped}
use Rattle.c_interface.proofs.record.record_numbers.Given as goal

abbrev pub invariant-loop-piece : goal.invariant-loop-piece
invariant-loop-piece l = Mapped entry_numbers l.pieces l.numbers l.piece
