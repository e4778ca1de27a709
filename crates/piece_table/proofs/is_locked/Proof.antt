-- `piece_table::is_locked`: locked is a lock of 1. Assumes nothing.
use Rattle.list_laws.proofs.Kit.{ap, ℕ, eqb, rules}
use Rattle.piece_table.proofs.is_locked.Statement.{statement}
use Rattle.piece_table.proofs.is_locked.Tie as tie

returns : tie.Need-returns
returns c = ap (λ (n : ℕ). eqb n 1) c.lock_of.ensures

pub is_locked_spec : {M : Type 1} → statement M
is_locked_spec = tie.close (tie.spec
    (search rules) returns)
