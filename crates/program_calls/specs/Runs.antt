-- A guided run as the calls give it: its numbers, and the best layout in a layout buffer; and how much of a workspace it has. Assumes nothing.
use Rattle.std.specs.Prelude.{List, [], ◌≡◌, ℕ, ◌<◌, ◌≤◌}
use Rattle.model.specs.Layout.{Layout}
use Rattle.model.specs.Buffer.{entries_of}
use Rattle.model.specs.Guided.{Guided}
use Rattle.run_guided_calls.specs.declared.RunTotals.{RunTotals}
use Rattle.program_text.specs.Output.{output_bound}

-- the numbers and the layout buffer are those of the run g
pub record Gives (r : RunTotals) (layout : List (List ℕ)) (g : Guided) : Type 0 where
  pub sum : r.sum ≡ g.sum
  pub made : r.made ≡ g.made
  pub moves : r.moves ≡ g.moves
  pub best : layout ≡ entries_of g.layout

-- the run of these numbers and this best layout; its weights are not printed
abbrev pub run_with : RunTotals → Layout → Guided
run_with r v = record { layout = v; sum = r.sum; weights = []; made = r.made; moves = r.moves }

-- how many words of a workspace are used, by the room of an output buffer: none where the text may not fit, and never more than there are
pub record UsedWords (room words used : ℕ) : Type 0 where
  pub none : room < output_bound → used ≡ 0
  pub within : used ≤ words
