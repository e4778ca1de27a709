-- A list of calls from a fresh sheet, as numbers: each call is kind, piece, degrees, x, y. Kind 0 lays the piece in the turn of so many
-- degrees with its corner at (x, y); where they are those of no turn it names a piece that no job has, so that it is refused by 9. Every
-- other kind withdraws the piece, and its degrees, x and y play no part. Any numbers are a call; one that is refused changes nothing.
-- Assumes nothing.
use Rattle.std.specs.Prelude.{true, false, List, map, ℕ, eqb, get_or}
use Rattle.model.specs.Lent.{Lent, job_of}
use Rattle.model.specs.Buffer.{placement}
use Rattle.model.specs.Refusal.{Outcome, unless}
use Rattle.model.specs.Cover.{Sheet, fresh, Call, laying, withdrawing, after_calls}
use Rattle.sheet_refusals.specs.Causes.{buffer_causes}
use Rattle.c_interface.specs.Numbers.{piece_with_turn}

-- the call that five numbers are
unfoldable pub call_of : List ℕ → Call
call_of e =
    elim (eqb (get_or e 0 0) 0) [
      | true ↦ laying (piece_with_turn (get_or e 2 0) (get_or e 1 0)) (placement (get_or e 2 0) (get_or e 3 0) (get_or e 4 0))
      | false ↦ withdrawing (get_or e 1 0)
    ]

-- the calls of a list
abbrev pub calls_of : List (List ℕ) → List Call
calls_of es = map call_of es

-- a run: refused as a fresh sheet is; else the sheet after the calls
unfoldable pub run_outcome : Lent → ℕ → List (List ℕ) → Outcome Sheet
run_outcome l room es = unless (buffer_causes l room) (after_calls (job_of l) (fresh (job_of l)) (calls_of es))
