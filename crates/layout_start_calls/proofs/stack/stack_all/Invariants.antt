-- `layout_start_calls::stack::stack_all`: stacking what is left of the order comes to what stacking all of it comes to; the pile ends within
-- 255 columns a piece and stays below the sheet's top. Assumes nothing.
use Rattle.list_laws.proofs.Kit.{◌≡◌, List, ◌*◌, ◌+◌, ◌≤◌, ℕ, drop, length, take}
use Rattle.model.specs.Start.{empty_stack}
use Rattle.model.specs.Lent.{lent_by, job_of}
use Rattle.layout_start_calls.specs.Stacks.{stack_of, stack_entries}
use Rattle.layout_start_calls.proofs.stack.stack_all.Given as goal

abbrev pub invariant-loop-i : goal.invariant-loop-i
invariant-loop-i l =
    (length l.layout ≡ l.size.count)
    × (l.pile.height.0 ≤ l.size.rows)
    × (l.pile.left.0 + l.pile.length ≤ 255 * l.i-index)
    × ((pixels : List ℕ)
    → stack_entries (job_of (lent_by l.size l.table pixels)) (drop l.i-index (take l.count l.order)) (stack_of l.pile) l.layout
    ≡ stack_entries (job_of (lent_by l.size l.table pixels)) (take l.count l.order) empty_stack l.initial.layout)
