-- `pitch_wrong`: 0, or above the largest. Assumes nothing.
use Rattle.cut_step_calls.proofs.Steps.{pitch_above}
use Rattle.cut_step_calls.proofs.pitch_wrong.Statement.{statement}
use Rattle.cut_step_calls.proofs.pitch_wrong.Tie as tie

returns-then-zero : tie.Need-returns-then-zero
returns-then-zero c = rw c.if-zero.true

returns : tie.Need-returns
returns c = pitch_above c.before.args.pitch c.if-zero.false

pub pitch_wrong_spec : {M : Type 1} → statement M
pitch_wrong_spec = tie.close (tie.spec
    returns-then-zero returns)
