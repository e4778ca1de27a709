-- `c_interface::record::record_numbers`: each entry is written as its numbers. Assumes nothing.
use Rattle.list_laws.proofs.Kit.{arith}
use Rattle.model.specs.Cover.{blank}
use Rattle.c_interface.specs.Records.{entry_numbers}
use Rattle.c_interface.proofs.Mapped.{mapped_begin, mapped_step, mapped_end}
use Rattle.c_interface.proofs.record.record_numbers.Goals as goal

pub loop-piece-init : goal.loop-piece-init
loop-piece-init c = mapped_begin entry_numbers c.args.sheet.pieces _ (omega arith)

pub loop-piece-preserved : goal.loop-piece-preserved
loop-piece-preserved c =
    let l = c.loop-piece in
    rw c.numbers_of.ensures (mapped_step entry_numbers c.args.sheet.pieces l.numbers l.piece blank (omega arith) l.invariant)

pub returns : goal.returns
returns c =
    let l = c.loop-piece in
    mapped_end entry_numbers c.args.sheet.pieces l.numbers l.piece (omega arith) l.invariant
