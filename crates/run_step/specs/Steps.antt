-- A trial's outcome and where a descent stands, as the code holds them. Assumes nothing.
use Rattle.std.proofs.Math.Option as maybe
use Rattle.std.specs.Prelude.{Option, Some, None, List, ℕ, ◌+◌, set}
use Rattle.model.specs.Piece.{on_line}
use Rattle.model.specs.Layout.{Job, Layout}
use Rattle.model.specs.Descent.{Progress}
use Rattle.model.specs.Search.{Best, places, sum_at}
use Rattle.model.specs.Buffer.{entry_of}
use Rattle.model.specs.declared.Turn.{Turn}
use Rattle.model.specs.declared.Line.{Line}
use Rattle.search_laws.specs.BoundedSearch.{below_bound}
use Rattle.search_laws.specs.Loop.{standing}
use Rattle.search_tracks.specs.declared.Mover.{Mover}
use Rattle.run_step.specs.declared.DescentState.{DescentState}

-- the search of a mover's line for the least sum below a bound
abbrev pub mover_search : Job → List ℕ → Layout → Mover → ℕ → maybe.Option Best
mover_search j ws v m bound = below_bound (sum_at j ws v m.piece m.turn m.line) (places j m.piece m.turn m.line) bound

-- a search that found a place is a move, with the piece's pair sum there
abbrev pub tried_answer : maybe.Option Best → Option ℕ
tried_answer maybe.none = None
tried_answer (maybe.some b) = Some b.sum

-- the layout buffer after a search for piece i in a turn on a line: where a place was found, the piece's entry there
abbrev pub entries_after : List (List ℕ) → ℕ → Turn → Line → maybe.Option Best → List (List ℕ)
entries_after es i t line maybe.none = es
entries_after es i t line (maybe.some b) = set es i (entry_of (on_line line t b.at))

-- where the descent stands, with the layout that its buffer holds
abbrev pub standing_as : Layout → DescentState → Progress
standing_as v s = standing v s.quiet s.made s.moves s.next

-- after a quiet trial the quiet count is 1 more
abbrev pub after_quiet : DescentState → ℕ → DescentState
after_quiet s next = record { sum = s.sum; quiet = s.quiet + 1; made = s.made + 1; moves = s.moves; next = next }

-- after a move it is 0
abbrev pub after_move : DescentState → ℕ → ℕ → DescentState
after_move s next sum = record { sum = sum; quiet = 0; made = s.made + 1; moves = s.moves + 1; next = next }
