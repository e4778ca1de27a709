-- How the sheet record stands in a lent buffer: for each of the 64 piece numbers laid (1 or 0), degrees, x, y. Assumes nothing.
use Rattle.std.specs.Prelude.{Bool, true, false, ◌&&◌, List, ◌∷◌, map, ℕ, ltb, eqb, get_or}
use Rattle.model.specs.Bounded.{one_if}
use Rattle.model.specs.Buffer.{is_turn, placement, entry_of}
use Rattle.model.specs.Calls.{leaving}
use Rattle.model.specs.Cover.{Sheet}
use Rattle.model.specs.Refusal.{Outcome}
use Rattle.model.specs.declared.Entry.{Entry}
use Rattle.model.specs.declared.Record.{Record}

-- an entry of the record as four numbers
abbrev pub entry_numbers : Entry → List ℕ
entry_numbers e = one_if e.laid ∷ entry_of e.place

-- a record as its buffer
abbrev pub record_numbers : List Entry → List (List ℕ)
record_numbers es = map entry_numbers es

-- four numbers are those of an entry: laid is 1 or 0 and the degrees are a turn's
abbrev pub entry_numbers_well : List ℕ → Bool
entry_numbers_well ks = ltb (get_or ks 0 0) 2 && is_turn (get_or ks 1 0)

-- an entry that no list of calls gives: not laid, and yet not at the origin
abbrev pub stray_entry : Entry
stray_entry = record { laid = false; place = placement 0 1 0 }

-- the entry that four numbers are; those of none stand for one that no list of calls gives
abbrev pub entry_of_numbers : List ℕ → Entry
entry_of_numbers ks =
    elim (entry_numbers_well ks) [
      | true ↦ record { laid = eqb (get_or ks 0 0) 1; place = placement (get_or ks 1 0) (get_or ks 2 0) (get_or ks 3 0) }
      | false ↦ stray_entry
    ]

-- the record that a buffer holds
abbrev pub record_in : List (List ℕ) → Record
record_in es = record { pieces = map entry_of_numbers es }

-- what the record's buffer holds after a call on the sheet
abbrev pub record_after : List (List ℕ) → Outcome Sheet → List (List ℕ)
record_after before o = leaving (λ s. record_numbers s.pieces) before o
