-- `program_calls::words_used` meets its contract. Assumes nothing.
use Rattle.list_laws.proofs.Kit.{refl, arith}
use Rattle.program_calls.proofs.words_used.Statement.{statement}
use Rattle.program_calls.proofs.words_used.Tie as tie

returns-then-room-lt-OUTPUT_BOUND : tie.Need-returns-then-room-lt-OUTPUT_BOUND
returns-then-room-lt-OUTPUT_BOUND c = record { none = λ l. refl; within = omega arith }

returns : tie.Need-returns
returns c = let at-else1 : tie.Else-room-lt-OUTPUT_BOUND = search in let long = at-else1.if-room-lt-OUTPUT_BOUND.false in record { none = λ l. absurd (omega arith); within = omega arith }

pub words_used_spec : {M : Type 1} → statement M
words_used_spec = tie.close (tie.spec
    returns-then-room-lt-OUTPUT_BOUND returns)
