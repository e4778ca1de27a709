-- The sheet that a call on it is given, and what every call asks first. Assumes nothing.
use Rattle.std.specs.Prelude.{List, [], ◌∷◌, ℕ}
use Rattle.model.specs.Lent.{Lent}
use Rattle.model.specs.Refusal.{Cause}
use Rattle.model.specs.Calls.{job_cause, counts_length}
use Rattle.model.specs.Cover.{Sheet}
use Rattle.model.specs.declared.Record.{Record}

-- the sheet that a record and a count buffer make
abbrev pub sheet_of : Record → List ℕ → Sheet
sheet_of r counts = record { pieces = r.pieces; counts = counts }

-- what every call asks first: 8 the job, 7 the length of the count buffer
abbrev pub buffer_causes : Lent → ℕ → List Cause
buffer_causes l room = job_cause l ∷ counts_length l room ∷ []
