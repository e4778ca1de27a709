-- From the pieces of a job text as document 01's definitions read them to the answers of this crate's calls, and what the calls leave in
-- the lent table and store. Assumes nothing.
use Rattle.std.specs.Prelude.{Result, Ok, Err, List, [], ◌∷◌, ◌≡◌, ℕ, suc, ◌+◌, ◌*◌, ◌≤◌, length, set}
use Rattle.std.proofs.lemmas.List.Edits.{sets}
use Rattle.model.specs.Refusal.{Outcome, refused, given, unless}
use Rattle.model.specs.Lent.{Lent, area_bound}
use Rattle.model.specs.Text.{and_then}
use Rattle.model.specs.JobText.{JobLine, PieceLine, rows_at, PieceText, rows_causes, as_piece_text, Pieces, pieces_at, as_lent, buffer_causes}
use Rattle.model.specs.Calls.{table_after, store_after}
use Rattle.model.specs.declared.JobSize.{JobSize}
use Rattle.model.specs.declared.Refusal.{Refusal}
use Rattle.job_calls.specs.declared.reader.Place.{Place}

-- ── a piece ──

-- the rows and the box of a piece whose line is read
abbrev pub box_at : List ℕ → ℕ → PieceLine → Outcome PieceText
box_at text line h =
    and_then (rows_at text h.columns h.rows h.next (suc line)) (λ r. unless (rows_causes line h r) (as_piece_text h r))

-- where reading stands after a piece, or its refusal
abbrev pub place_answer : ℕ → ℕ → Outcome PieceText → Result Place Refusal
place_answer area line (refused r) = Err r
place_answer area line (given t) =
    Ok (record { area = area + t.columns * t.rows; next = t.next; line = line + t.rows + 1 })

-- reading stands inside the text, with areas within 65,536 and at most 256 lines on
abbrev pub PlaceWithin : List ℕ → ℕ → Result Place Refusal → Type 0
PlaceWithin text line (Err r) = Unit {0}
PlaceWithin text line (Ok p) = (p.next ≤ length text) × (p.area ≤ area_bound) × (p.line ≤ line + 256)

-- the pixels of a piece that is read are stored
abbrev pub BoxStored : ℕ → List ℕ → List ℕ → Outcome PieceText → Type 0
BoxStored at before last (refused r) = Unit {0}
BoxStored at before last (given t) = last ≡ sets before at t.pixels

-- the entry and the pixels of a piece that is read are stored
pub record Entered (i at : ℕ) (table lastTable : List (List ℕ)) (store lastStore : List ℕ) (t : PieceText) : Type 0 where
  pub entry : lastTable ≡ set table i (t.columns ∷ t.rows ∷ t.turns ∷ t.lock ∷ [])
  pub pixels : lastStore ≡ sets store at t.pixels

abbrev pub PieceStored : ℕ → ℕ → List (List ℕ) → List (List ℕ) → List ℕ → List ℕ → Outcome PieceText → Type 0
PieceStored i at table lastTable store lastStore (refused r) = Unit {0}
PieceStored i at table lastTable store lastStore (given t) = Entered i at table lastTable store lastStore t

-- ── all pieces ──

-- how many pixel bytes there are, or the refusal
abbrev pub pieces_answer : Outcome Pieces → Result ℕ Refusal
pieces_answer (refused r) = Err r
pieces_answer (given x) = Ok (length x.pixels)

-- the table and the pixels of pieces that are read are stored
pub record JobFilled (table lastTable : List (List ℕ)) (store lastStore : List ℕ) (x : Pieces) : Type 0 where
  pub entries : lastTable ≡ sets table 0 x.table
  pub pixels : lastStore ≡ sets store 0 x.pixels

abbrev pub PiecesStored : List (List ℕ) → List (List ℕ) → List ℕ → List ℕ → Outcome Pieces → Type 0
PiecesStored table lastTable store lastStore (refused r) = Unit {0}
PiecesStored table lastTable store lastStore (given x) = JobFilled table lastTable store lastStore x

-- ── the job ──

-- the pieces behind a job line, where the lent buffers have room for them
abbrev pub roomed : List ℕ → JobLine → ℕ → ℕ → Outcome Lent
roomed text j tableLength pixelsLength =
    and_then (pieces_at text j j.size.count 0 0 j.next 2) (λ r. unless (buffer_causes tableLength pixelsLength (as_lent j r)) (as_lent j r))

-- the numbers of a job that is read, or the refusal
abbrev pub read_answer : Outcome Lent → Result JobSize Refusal
read_answer (refused r) = Err r
read_answer (given k) = Ok k.size

-- what reading a job answers and leaves in the lent table and store: the outcome's numbers, entries and pixel bytes, what lies beyond
-- untouched, and on a refusal nothing written
pub record Leaves (r : Result JobSize Refusal) (table lastTable : List (List ℕ)) (store lastStore : List ℕ) (o : Outcome Lent) : Type 0 where
  pub answers : r ≡ read_answer o
  pub entries : lastTable ≡ table_after table o
  pub pixels : lastStore ≡ store_after store o
