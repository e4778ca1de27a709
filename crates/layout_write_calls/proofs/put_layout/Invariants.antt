-- `layout_write_calls::put_layout`: what is still to be written comes to the same as all lines did after the layout line, and a line has at
-- most 27 bytes. Assumes nothing.
use Rattle.list_laws.proofs.Kit.{◌*◌, ◌+◌, ◌≤◌, drop}
use Rattle.model.specs.Buffer.{layout_of}
use Rattle.model.specs.LayoutText.{placements_text}
use Rattle.layout_write_calls.proofs.Sequel.{Left}
use Rattle.layout_write_calls.proofs.put_layout.Given as goal

abbrev pub invariant-loop-i : goal.invariant-loop-i
invariant-loop-i l =
    (l.at ≤ 27 * (l.i + 1))
    × Left l.initial.text l.initial.at (placements_text 0 (layout_of l.layout)) l.text l.at (placements_text l.i (drop l.i (layout_of l.layout)))
