-- Document 01, 'Start, layout text, sheet', the sheet of cover counts: fresh, lay, withdraw, and what a list of calls gives; document 02,
-- point 6: a locked piece is not withdrawn. Assumes nothing.
use Rattle.std.specs.Prelude.{Bool, true, false, not, ◌&&◌, ◌||◌, List, [], ◌∷◌, ℕ, suc, ◌+◌, ◌-◌, ◌*◌, ◌/◌, ◌%◌, ltb, eqb, length, get_or, set, replicate}
use Rattle.std.proofs.Math.Option.{Option, none, some}
use Rattle.model.specs.Bounded.{all_below, sum_below, one_if}
use Rattle.model.specs.Piece.{Point, corner, covers, degrees}
use Rattle.model.specs.Layout.{Job, turned_piece, allowed, is_locked, inside, origin}
use Rattle.model.specs.Lent.{piece_bound}
use Rattle.model.specs.Refusal.{Outcome, refused, given, Cause, cause, unless, no_such_piece, laid_already, outside_sheet, not_laid}
use Rattle.model.specs.Refusal.{piece_locked}
use Rattle.model.specs.declared.Placement.{Placement}
use Rattle.model.specs.declared.Entry.{Entry}

-- a sheet: an entry for each piece number, and a count for each pixel, row by row
pub record Sheet : Type 0 where
  pub pieces : List Entry
  pub counts : List ℕ

-- the entry of a piece that is not laid: turn 0, corner (0, 0)
abbrev pub blank : Entry
blank = record { laid = false; place = origin }

-- the entry of a piece laid at a placement
abbrev pub laid_at : Placement → Entry
laid_at p = record { laid = true; place = p }

-- the entry of piece i
abbrev pub entry_in : List Entry → ℕ → Entry
entry_in es i = get_or es i blank

-- the sheet's pixel with number k
abbrev pub pixel_at : Job → ℕ → Point
pixel_at j k = record { x = k % j.size.columns; y = k / j.size.columns }

-- piece i at a placement covers the pixel with number k
unfoldable pub covers_pixel : Job → ℕ → Placement → ℕ → Bool
covers_pixel j i p k = covers (turned_piece j i p.turn) (corner p) (pixel_at j k)

-- f applied to each count and its number, from number k on
unfoldable pub map_from : (ℕ → ℕ → ℕ) → ℕ → List ℕ → List ℕ
map_from f k [] = []
map_from f k (c ∷ cs) = f k c ∷ map_from f (suc k) cs

-- ── the calls ──

-- a fresh sheet: nothing is laid and all counts are 0
unfoldable pub fresh : Job → Sheet
fresh j = record { pieces = replicate piece_bound blank; counts = replicate (j.size.rows * j.size.columns) 0 }

-- piece i laid: its entry holds the placement, and each pixel that it covers counts one more
unfoldable pub lay : Job → Sheet → ℕ → Placement → Sheet
lay j s i p =
    record {
      pieces = set s.pieces i (laid_at p);
      counts = map_from (λ k c. c + one_if (covers_pixel j i p k)) 0 s.counts;
    }

-- piece i withdrawn: its entry is blank, and each pixel that it covered counts one less
unfoldable pub withdraw : Job → Sheet → ℕ → Sheet
withdraw j s i =
    record {
      pieces = set s.pieces i blank;
      counts = map_from (λ k c. c - one_if (covers_pixel j i (entry_in s.pieces i).place k)) 0 s.counts;
    }

-- why a lay is refused: no such piece or turn not allowed; laid already; outside
unfoldable pub lay_causes : Job → Sheet → ℕ → Placement → List Cause
lay_causes j s i p =
    cause no_such_piece (not (ltb i j.size.count && allowed j i p.turn)) ∷ cause laid_already (entry_in s.pieces i).laid
    ∷ cause outside_sheet (not (inside j i p)) ∷ []

-- why a withdraw is refused: no such piece; not laid; locked
unfoldable pub withdraw_causes : Job → Sheet → ℕ → List Cause
withdraw_causes j s i =
    cause no_such_piece (not (ltb i j.size.count)) ∷ cause not_laid (not (entry_in s.pieces i).laid)
    ∷ cause piece_locked (is_locked j i) ∷ []

-- a call on a sheet
pub data Call : Type 0 where
  laying : ℕ → Placement → Call
  withdrawing : ℕ → Call

-- what a call comes to
unfoldable pub called : Job → Sheet → Call → Outcome Sheet
called j s (laying i p) = unless (lay_causes j s i p) (lay j s i p)
called j s (withdrawing i) = unless (withdraw_causes j s i) (withdraw j s i)

-- the sheet after an outcome: a refusal changes nothing
abbrev pub afterwards : Sheet → Outcome Sheet → Sheet
afterwards s (refused r) = s
afterwards s (given s') = s'

-- the sheet after a list of calls
unfoldable pub after_calls : Job → Sheet → List Call → Sheet
after_calls j s [] = s
after_calls j s (c ∷ cs) = after_calls j (afterwards s (called j s c)) cs

-- ── what a sheet means ──

-- piece i is laid and covers the pixel with number k
abbrev pub laid_on : Job → List Entry → ℕ → ℕ → Bool
laid_on j es k i = (entry_in es i).laid && covers_pixel j i (entry_in es i).place k

-- the number of laid pieces on the pixel with number k
unfoldable pub laid_count : Job → List Entry → ℕ → ℕ
laid_count j es k = sum_below j.size.count (λ i. one_if (laid_on j es k i))

-- the entry is that of a piece that is not laid: turn 0, corner (0, 0)
unfoldable pub is_blank : Entry → Bool
is_blank e = not e.laid && eqb (degrees e.place.turn) 0 && eqb e.place.x.0 0 && eqb e.place.y.0 0

-- an entry that some list of calls gives: blank, or a piece of the job laid inside in an allowed turn
unfoldable pub entry_well : Job → List Entry → ℕ → Bool
entry_well j es i =
    is_blank (entry_in es i)
    || ((entry_in es i).laid && ltb i j.size.count && allowed j i (entry_in es i).place.turn && inside j i (entry_in es i).place)

-- a sheet that some list of calls from a fresh one gives
unfoldable pub sheet_well : Job → Sheet → Bool
sheet_well j s =
    eqb (length s.pieces) piece_bound && all_below piece_bound (entry_well j s.pieces)
    && eqb (length s.counts) (j.size.rows * j.size.columns)
    && all_below (j.size.rows * j.size.columns) (λ k. eqb (get_or s.counts k 0) (laid_count j s.pieces k))

-- ── the last call that was not refused ──

-- the piece that a call names
abbrev pub called_piece : Call → ℕ
called_piece (laying i p) = i
called_piece (withdrawing i) = i

-- the call is a lay
abbrev pub is_lay : Call → Bool
is_lay (laying i p) = true
is_lay (withdrawing i) = false

-- the call is taken up, and not refused
abbrev pub taken : Outcome Sheet → Bool
taken (refused r) = false
taken (given s) = true

-- the last call of the list that names piece i and was not refused, or the one before the list
unfoldable pub last_taken : Job → Sheet → ℕ → Option Call → List Call → Option Call
last_taken j s i before [] = before
last_taken j s i before (c ∷ cs) =
    last_taken j (afterwards s (called j s c)) i
    (elim (eqb (called_piece c) i && taken (called j s c)) [ true ↦ some c | false ↦ before ]) cs

-- such a call is there and is a lay
abbrev pub ends_laid : Option Call → Bool
ends_laid none = false
ends_laid (some c) = is_lay c
