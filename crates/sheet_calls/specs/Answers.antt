-- What the calls on a sheet answer: document 01's outcome as a reply with the sheet record beside it.
-- On a refusal the record is the one that was passed, and of a fresh sheet the blank one. Assumes nothing.
use Rattle.std.specs.Prelude.{ℕ, set, replicate, Result, Ok, Err}
use Rattle.model.specs.Lent.{piece_bound}
use Rattle.model.specs.Refusal.{Outcome, refused, given}
use Rattle.model.specs.Cover.{Sheet, blank}
use Rattle.model.specs.declared.Entry.{Entry}
use Rattle.model.specs.declared.Record.{Record}
use Rattle.model.specs.declared.Refusal.{Refusal}
use Rattle.sheet_calls.specs.declared.SheetAnswer.{SheetAnswer}

-- the record of a sheet
abbrev pub record_of : Sheet → Record
record_of s = record { pieces = s.pieces }

-- the record where nothing is laid
abbrev pub blank_record : Record
blank_record = record { pieces = replicate piece_bound blank }

-- the record with another entry for piece i
abbrev pub with_entry : Record → ℕ → Entry → Record
with_entry r i e = record { pieces = set r.pieces i e }

-- ── answers ──

-- the answer of a call that is taken up, with the record after it
abbrev pub given_answer : Record → SheetAnswer
given_answer r = record { reply = Ok tt; sheet = r }

-- the record that a call gives, or its refusal
abbrev pub record_answer : Outcome Sheet → Result Record Refusal
record_answer (refused r) = Err r
record_answer (given s) = Ok (record_of s)

-- the answer of a call by what it gives: on a refusal the record is the one before
abbrev pub answer_by : Record → Result Record Refusal → SheetAnswer
answer_by before (Err r) = record { reply = Err r; sheet = before }
answer_by before (Ok s) = given_answer s

-- a call's answer; `before` is the record on a refusal
abbrev pub sheet_answer : Record → Outcome Sheet → SheetAnswer
sheet_answer before (refused r) = record { reply = Err r; sheet = before }
sheet_answer before (given s) = given_answer (record_of s)
