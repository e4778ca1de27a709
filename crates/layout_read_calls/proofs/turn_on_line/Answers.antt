-- `layout_read_calls::turn_on_line`: degrees above 270 are those of no turn. Assumes nothing.
use Rattle.list_laws.proofs.Kit.{eq-eqb, ne_eqb}
use Rattle.layout_read_calls.specs.Readings.{turn_on_line}
use Rattle.layout_read_calls.proofs.Lines.{no_turn_above}
use Rattle.layout_read_calls.proofs.turn_on_line.Goals as goal

pub returns-then-number-i : goal.returns-then-number-i
returns-then-number-i c = rw (ne_eqb _ _ c.if-number-i.true, turn_on_line)

pub returns-then-above : goal.returns-then-above
returns-then-above c = rw (eq-eqb _ _ c.if-number-i.false, turn_on_line, no_turn_above _ c.if-above.true)

pub returns : goal.returns
returns c = rw (eq-eqb _ _ c.if-number-i.false, turn_on_line) c.turn_of.ensures
