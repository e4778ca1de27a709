-- `c_interface::record::record_of`: each entry is the one that its numbers are. Assumes nothing.
use Rattle.list_laws.proofs.Kit.{[], arith}
use Rattle.c_interface.specs.Records.{entry_of_numbers}
use Rattle.c_interface.proofs.Mapped.{mapped_begin, mapped_step, mapped_end}
use Rattle.c_interface.proofs.record.record_of.Goals as goal

pub loop-i-init : goal.loop-i-init
loop-i-init c = mapped_begin entry_of_numbers c.args.numbers _ (omega arith)

pub loop-i-preserved : goal.loop-i-preserved
loop-i-preserved c =
    let l = c.loop-i in
    rw c.entry_of.ensures (mapped_step entry_of_numbers c.args.numbers l.pieces l.i [] (omega arith) l.invariant)

pub returns : goal.returns
returns c =
    let l = c.loop-i in
    rw (mapped_end entry_of_numbers c.args.numbers l.pieces l.i (omega arith) l.invariant)
