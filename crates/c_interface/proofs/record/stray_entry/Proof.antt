-- `c_interface::record::stray_entry` meets its contract by what `placement_of` ensures. Assumes nothing.
use Rattle.list_laws.proofs.Kit.{rules}
use Rattle.c_interface.proofs.record.stray_entry.Statement.{statement}
use Rattle.c_interface.proofs.record.stray_entry.Tie as tie

returns : tie.Need-returns
returns c = rw c.placement_of-place.ensures

pub stray_entry_spec : {M : Type 1} → statement M
stray_entry_spec = tie.close (tie.spec
    (search rules) returns)
