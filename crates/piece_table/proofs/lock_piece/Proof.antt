-- `piece_table::lock_piece`: the entry's first three numbers are as they were, and its lock is 1. Assumes nothing.
use Rattle.list_laws.proofs.Kit.{refl, rules}
use Rattle.model.specs.Calls.{with_lock}
use Rattle.piece_table.proofs.lock_piece.Statement.{statement}
use Rattle.piece_table.proofs.lock_piece.Tie as tie

returns : tie.Need-returns
unfolding with_lock
returns c = refl

pub lock_piece_spec : {M : Type 1} → statement M
lock_piece_spec =
    tie.close (tie.spec
    (search rules) (search rules) (search rules) (search rules) (search rules) (search rules) (search rules) (search rules) returns)
