-- What the reader's functions answer, by the model's readings and outcomes. Assumes nothing.
use Rattle.std.specs.Prelude.{Result, Ok, Err, true, false, not, List, [], ◌∷◌, ℕ, eqb}
use Rattle.std.proofs.Math.Option.{Option, none}
use Rattle.model.specs.Layout.{Job, Layout}
use Rattle.model.specs.Refusal.{Outcome, refused, given, cause, unless, wrong_length}
use Rattle.model.specs.Buffer.{turn_of_degrees}
use Rattle.model.specs.Text.{and_then}
use Rattle.model.specs.LayoutText.{PlacementLine, as_placement_line, placement_causes, placements_at}
use Rattle.model.specs.declared.Turn.{Turn}
use Rattle.model.specs.declared.Placement.{Placement}
use Rattle.model.specs.declared.Refusal.{Refusal}
use Rattle.layout_read_calls.specs.declared.PlacementFields.{PlacementFields}
use Rattle.layout_read_calls.specs.declared.PlacedLine.{PlacedLine}

-- the numbers of a piece's line
abbrev pub numbers_of : PlacementFields → List ℕ
numbers_of f = f.number ∷ f.degrees ∷ f.x ∷ f.y ∷ []

-- the turn on the line of piece i, where the line names that piece and the degrees are those of a turn
abbrev pub turn_on_line : ℕ → ℕ → ℕ → Option Turn
turn_on_line i number degrees = elim (eqb number i) [ true ↦ turn_of_degrees degrees | false ↦ none ]

-- the placement that the numbers of piece i's line give, unless a cause is there
abbrev pub place_on_line : Job → ℕ → ℕ → List ℕ → Outcome Placement
place_on_line j i line ks = unless (placement_causes line j i ks (as_placement_line ks 0).place) (as_placement_line ks 0).place

-- the layout that the pieces' lines from position p on give, unless the buffer has another length
abbrev pub layout_from : Job → List ℕ → ℕ → ℕ → Outcome Layout
layout_from j text p room =
    and_then (placements_at j text j.size.count 0 p 2) (λ v. unless (cause wrong_length (not (eqb room j.size.count)) ∷ []) v)

-- the position after the layout line
abbrev pub position_answer : Outcome ℕ → Result ℕ Refusal
position_answer (refused r) = Err r
position_answer (given p) = Ok p

-- that position; 0 where the line is refused
abbrev pub position_in : Result ℕ Refusal → ℕ
position_in (Err r) = 0
position_in (Ok p) = p

-- a piece's placement
abbrev pub place_answer : Outcome Placement → Result Placement Refusal
place_answer (refused r) = Err r
place_answer (given p) = Ok p

-- the placement on a piece's line and the position after it
abbrev pub line_answer : Outcome PlacementLine → Result PlacedLine Refusal
line_answer (refused r) = Err r
line_answer (given h) = Ok (record { place = h.place; next = h.next })

-- that position; 0 where the line is refused
abbrev pub line_next : Result PlacedLine Refusal → ℕ
line_next (Err r) = 0
line_next (Ok h) = h.next
