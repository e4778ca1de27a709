-- The stacks of the start layout, over the entries of a layout buffer. Assumes nothing.
use Rattle.std.specs.Prelude.{List, [], ◌∷◌, ◌≡◌, ℕ, ◌+◌, ◌≤◌, set}
use Rattle.model.specs.Layout.{Job}
use Rattle.model.specs.Lent.{lent_by, job_of, entry_rows}
use Rattle.model.specs.Start.{Stack, room_for, on_stack, stacked}
use Rattle.model.specs.Buffer.{entry_of}
use Rattle.model.specs.declared.JobSize.{JobSize}
use Rattle.layout_start_calls.specs.declared.stack.Pile.{Pile}

-- a pile as the model's stack
abbrev pub stack_of : Pile → Stack
stack_of p = record { left = p.left.0; height = p.height.0; length = p.length }

-- the pieces of the list placed one after the other in a layout buffer
unfoldable pub stack_entries : Job → List ℕ → Stack → List (List ℕ) → List (List ℕ)
stack_entries j [] s es = es
stack_entries j (i ∷ is) s es = stack_entries j is (stacked j i (room_for j i s)) (set es i (entry_of (on_stack j i (room_for j i s))))

-- the pile has room for piece i on top, and its right end is no further than before
pub record PileRoom (size : JobSize) (table : List (List ℕ)) (i : ℕ) (before after : Pile) : Type 0 where
  pub same : (pixels : List ℕ) → stack_of after ≡ room_for (job_of (lent_by size table pixels)) i (stack_of before)
  pub on_top : after.height.0 + entry_rows table i ≤ size.rows
  pub end : after.left.0 + after.length ≤ before.left.0 + before.length

-- the pile with piece i on it
pub record Piled (size : JobSize) (table : List (List ℕ)) (i : ℕ) (before after : Pile) : Type 0 where
  pub same : (pixels : List ℕ) → stack_of after ≡ stacked (job_of (lent_by size table pixels)) i (stack_of before)
  pub height : after.height.0 ≤ size.rows
  pub end : after.left.0 + after.length ≤ before.left.0 + before.length + 255
