-- `blank_record`: each of the 64 entries is the blank one.
-- Assumes nothing.
use Rattle.list_laws.proofs.Kit.{rules}
use Rattle.sheet_calls.proofs.record.blank_record.Statement.{statement}
use Rattle.sheet_calls.proofs.record.blank_record.Tie as tie

returns : tie.Need-returns
returns c = rw c.origin.ensures

pub blank_record_spec : {M : Type 1} → statement M
blank_record_spec = tie.close (tie.spec
    (search rules) returns)
