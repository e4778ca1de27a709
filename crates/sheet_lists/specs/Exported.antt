-- A list of exported calls on the caller's two buffers: what `sigbrol_fresh`, `sigbrol_lay` and `sigbrol_withdraw` leave in them, in the
-- words of their contracts, one call after another. The numbers of a call may be any. Assumes nothing.
use Rattle.std.specs.Prelude.{List, [], ◌∷◌, map, ℕ, length}
use Rattle.model.specs.Lent.{Lent}
use Rattle.model.specs.Buffer.{placement}
use Rattle.model.specs.Refusal.{Outcome}
use Rattle.model.specs.Calls.{fresh_call, lay_call, withdraw_call, counts_after}
use Rattle.model.specs.Cover.{Sheet, Call, laying, withdrawing}
use Rattle.sheet_refusals.specs.Causes.{sheet_of}
use Rattle.c_interface.specs.Numbers.{piece_with_turn}
use Rattle.c_interface.specs.Records.{record_in, record_after}

-- the caller's buffers: the entries of the record, and the counts
pub record Buffers : Type 0 where
  pub entries : List (List ℕ)
  pub counts : List ℕ

-- an exported call with its numbers: a lay of a piece by degrees, x and y, or a withdraw of a piece
pub data ExportedCall : Type 0 where
  lays : ℕ → ℕ → ℕ → ℕ → ExportedCall
  withdraws : ℕ → ExportedCall

-- the call on a sheet that the numbers are
abbrev pub call_meant : ExportedCall → Call
call_meant (lays piece turn x y) = laying (piece_with_turn turn piece) (placement turn x y)
call_meant (withdraws piece) = withdrawing piece

-- the calls on a sheet that a list of exported calls is
abbrev pub calls_meant : List ExportedCall → List Call
calls_meant cs = map call_meant cs

-- the sheet that the buffers hold
abbrev pub sheet_held : Buffers → Sheet
sheet_held b = sheet_of (record_in b.entries) b.counts

-- what an exported call comes to
unfoldable pub exported : Lent → Buffers → ExportedCall → Outcome Sheet
exported l b (lays piece turn x y) = lay_call l (sheet_held b) (piece_with_turn turn piece) (placement turn x y)
exported l b (withdraws piece) = withdraw_call l (sheet_held b) piece

-- what the buffers hold after an outcome
abbrev pub buffers_after : Buffers → Outcome Sheet → Buffers
buffers_after b o = record { entries = record_after b.entries o; counts = counts_after b.counts o }

-- what they hold after a list of exported calls
unfoldable pub after_exported : Lent → Buffers → List ExportedCall → Buffers
after_exported l b [] = b
after_exported l b (c ∷ cs) = after_exported l (buffers_after b (exported l b c)) cs

-- what `sigbrol_fresh` comes to
abbrev pub fresh_exported : Lent → Buffers → Outcome Sheet
fresh_exported l b = fresh_call l (length b.counts)

-- what the buffers hold after a fresh sheet and a list of exported calls
abbrev pub from_fresh : Lent → Buffers → List ExportedCall → Buffers
from_fresh l b cs = after_exported l (buffers_after b (fresh_exported l b)) cs
