-- `layout_compact_calls::drawing::draw_all`: the strips of the pieces passed are made, and those that are made stand. Assumes nothing.
use Rattle.list_laws.proofs.Kit.{◌≢◌, ◌<◌, ℕ}
use Rattle.layout_strips.specs.Kept.{span_made, Kept}
use Rattle.layout_compact_calls.proofs.drawing.draw_all.Given as goal

abbrev pub invariant-loop-i : goal.invariant-loop-i
invariant-loop-i l =
    Kept l.direction l.table l.pixels l.layout l.store l.spans × ((m : ℕ) → m < l.i → span_made l.spans m ≢ 0)
