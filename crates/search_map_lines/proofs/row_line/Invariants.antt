-- `search_map_lines::row_line`: the places before `at` are done. Assumes nothing.
use Rattle.list_laws.proofs.Kit.{◌≤◌}
use Rattle.search_map_lines.proofs.Rows.{RowDoing}
use Rattle.search_map_lines.proofs.row_line.Given as goal

abbrev pub invariant-loop-at : goal.invariant-loop-at
invariant-loop-at l = record { within : l.at ≤ l.places; done : RowDoing l.ws l.w l.p l.places l.fn.line l.line l.at }
