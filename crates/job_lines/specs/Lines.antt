-- From the lines of a job text as document 01's definitions, and document 02's of its versions, read them to the answers of this crate's
-- calls. Assumes nothing.
use Rattle.std.specs.Prelude.{Result, Ok, Err, Bool, true, List, ◌≡◌, ℕ, ◌+◌, ◌*◌, ◌≤◌}
use Rattle.model.specs.Refusal.{Outcome, refused, given}
use Rattle.model.specs.Text.{Reading, line_at, formed}
use Rattle.model.specs.JobText.{JobLine, PieceLine, piece_word, job_versions, piece_ends, as_piece_line}
use Rattle.model.specs.declared.Refusal.{Refusal}
use Rattle.model.specs.Lent.{lock_bound, area_bound, sides_in_range}
use Rattle.job_lines.specs.declared.JobHead.{JobHead}
use Rattle.job_lines.specs.declared.PieceHead.{PieceHead}

-- a refusal that names a line
abbrev pub refusal_at : ℕ → ℕ → Refusal
refusal_at number line = record { number = number; first = line; second = 0 }

-- ── the job line ──

abbrev pub head_of : JobLine → JobHead
head_of j = record { size = j.size; locks = j.locks; next = j.next }

abbrev pub job_line_of : JobHead → JobLine
job_line_of j = record { size = j.size; locks = j.locks; next = j.next }

-- the job line, or its refusal
abbrev pub job_answer : Outcome JobLine → Result JobHead Refusal
job_answer (refused r) = Err r
job_answer (given j) = Ok (head_of j)

-- what a job line says, its form alone
abbrev pub said_by : Reading JobLine → Outcome JobLine
said_by r = formed 1 r (λ j next. given j)

-- the form of the job line alone, of any version
abbrev pub job_form : List ℕ → Outcome JobLine
job_form text = said_by (job_versions text)

-- the position after the line; 0 where it is refused
abbrev pub head_next : Result JobHead Refusal → ℕ
head_next (Ok j) = j.next
head_next (Err r) = 0

-- the pieces that the line says; 0 where it is refused
abbrev pub head_count : Result JobHead Refusal → ℕ
head_count (Ok j) = j.size.count
head_count (Err r) = 0

-- ── a piece line ──

abbrev pub piece_of : PieceLine → PieceHead
piece_of h = record { number = h.number; columns = h.columns; rows = h.rows; turns = h.turns; lock = h.lock; next = h.next }

abbrev pub piece_line_of : PieceHead → PieceLine
piece_line_of h = record { number = h.number; columns = h.columns; rows = h.rows; turns = h.turns; lock = h.lock; next = h.next }

-- a piece line, or its refusal
abbrev pub piece_answer : Outcome PieceLine → Result PieceHead Refusal
piece_answer (refused r) = Err r
piece_answer (given h) = Ok (piece_of h)

-- the form of a piece line alone, with a lock or without
abbrev pub piece_form : List ℕ → Bool → ℕ → ℕ → Outcome PieceLine
piece_form text locks p line = formed line (line_at piece_word (piece_ends locks) text p) (λ ks next. given (as_piece_line ks next))

-- the position after the line; 0 where it is refused
abbrev pub piece_next : Result PieceHead Refusal → ℕ
piece_next (Ok h) = h.next
piece_next (Err r) = 0

-- sides, turns and lock are in range and the areas so far are within 65,536
abbrev pub Ranged : ℕ → Result PieceHead Refusal → Type 0
Ranged area (Ok h) =
    (sides_in_range h.columns h.rows h.turns ≡ true) × (h.lock ≤ lock_bound) × (area + h.columns * h.rows ≤ area_bound)
Ranged area (Err r) = Unit {0}
