-- The sheet record in its buffer. A record written and read again is the same record, whatever its places. So a list of exported calls that
-- hands the same buffers on from one call to the next goes through the sheets that the model's calls go through, and what cover_laws shows
-- of every list of lay and withdraw calls (`demand2_cover`, `well_exactly`) holds of the buffers: the counts at the end are those of the
-- laid pieces, and a buffer is refused by 8 exactly where its record and counts are none that a list of calls gives. Numbers that are
-- no entry are read as one that no list of calls gives. Assumes nothing.
use Rattle.list_laws.proofs.Kit.{◌∙◌, ◌≡◌, ap, ap₂, refl, sym, Bool, false, false≢true, true, ◌⊎◌, inl, inr, List, [], ◌∷◌, map, ◌*◌, ℕ, arith, get_or-map}
use Rattle.list_laws.proofs.Kit.{get_or, length, eq-eqb}
use Rattle.model.specs.Layout.{Job}
use Rattle.model.specs.Lent.{Lent, job_of, lent_well}
use Rattle.model.specs.Buffer.{turn_of_degrees, is_turn, turn_of}
use Rattle.model.specs.Refusal.{Outcome, refused, given, Cause, unless, not_ours}
use Rattle.model.specs.Calls.{counts_after, sheet_causes}
use Rattle.model.specs.Cover.{Sheet, blank, afterwards, entry_in, sheet_well}
use Rattle.model.specs.declared.Entry.{Entry}
use Rattle.model.specs.declared.Placement.{Placement}
use Rattle.model.specs.declared.Record.{Record}
use Rattle.list_laws.proofs.Tests.{fails}
use Rattle.cover_laws.proofs.Counts.{LaidWell}
use Rattle.cover_laws.proofs.Reached.{well_sound}
use Rattle.text_laws.proofs.Entries.{degrees_turn, entry_read_back}
use Rattle.c_interface.specs.Records.{entry_numbers, record_numbers, entry_numbers_well, stray_entry, entry_of_numbers, record_in, record_after}

-- the sheet that a record's buffer and a count buffer hold
abbrev pub sheet_in : List (List ℕ) → List ℕ → Sheet
sheet_in es cs = record { pieces = (record_in es).pieces; counts = cs }

-- ── written and read again ──

-- an entry with a known flag
flag_back : (b : Bool) (p : Placement) → entry_of_numbers (entry_numbers (record { laid = b; place = p })) ≡ record { laid = b; place = p }
flag_back true p = rw (degrees_turn p.turn, entry_of_numbers) (ap (λ (q : Placement). record { laid = true; place = q }) (entry_read_back p))
flag_back false p = rw (degrees_turn p.turn, entry_of_numbers) (ap (λ (q : Placement). record { laid = false; place = q }) (entry_read_back p))

-- an entry's numbers are read as the entry
pub entry_numbers_back : (e : Entry) → entry_of_numbers (entry_numbers e) ≡ e
entry_numbers_back e = flag_back e.laid e.place

-- the numbers of entries are read as the entries
pub numbers_back : (es : List Entry) → map entry_of_numbers (record_numbers es) ≡ es
numbers_back [] = refl
numbers_back (e ∷ es) = ap₂ (λ (d : Entry) (ds : List Entry). d ∷ ds) (entry_numbers_back e) (numbers_back es)

-- a record that is written is read as the same record
pub record_back : (r : Record) → record_in (record_numbers r.pieces) ≡ r
record_back r = ap (λ (es : List Entry). record { pieces = es }) (numbers_back r.pieces)

-- what a call leaves in the buffers is read as the sheet after it
pub buffers_back : (es : List (List ℕ)) (cs : List ℕ) (o : Outcome Sheet)
    → sheet_in (record_after es o) (counts_after cs o) ≡ afterwards (sheet_in es cs) o
buffers_back es cs (refused r) = refl
buffers_back es cs (given s) = ap (λ (ds : List Entry). record { pieces = ds; counts = s.counts }) (numbers_back s.pieces)

-- ── numbers that are no entry ──

-- the entry that a record's buffer holds for piece i
pub entry_in_buffer : (es : List (List ℕ)) (i : ℕ) → entry_in (record_in es).pieces i ≡ entry_of_numbers (get_or es i [])
unfolding is_turn turn_of turn_of_degrees
entry_in_buffer es i = get_or-map entry_of_numbers es i []

-- a sheet with the stray entry is none that a list of calls gives
pub stray_not_well : (j : Job) (s : Sheet) (i : ℕ) → entry_in s.pieces i ≡ stray_entry → sheet_well j s ≡ false
stray_not_well j s i e = fails (sheet_well j s) (λ w. none_such ((well_sound j s w).entry i))
  where
    none_such : (entry_in s.pieces i ≡ blank) ⊎ LaidWell j i (entry_in s.pieces i) → ⊥
    none_such (inl b) = let z : ◌≡◌ {A = ℕ} 1 0 = ap (λ (d : Entry). d.place.x.0) (sym e ∙ b) in omega arith
    none_such (inr w) = false≢true (ap (λ (d : Entry). d.laid) (sym e) ∙ w.laid)

-- numbers that are no entry, laid above 1 or degrees of no turn, make the sheet none that a list of calls gives
pub no_entry_not_well : (j : Job) (es : List (List ℕ)) (cs : List ℕ) (i : ℕ) → entry_numbers_well (get_or es i []) ≡ false
    → sheet_well j (sheet_in es cs) ≡ false
no_entry_not_well j es cs i e = stray_not_well j (sheet_in es cs) i (entry_in_buffer es i ∙ rw (e, entry_of_numbers))

-- a call on a sheet that no list of calls gives is refused by 8
pub refused_by_8 : {A : Type 0} (l : Lent) (s : Sheet) (more : List Cause) (a : A) → lent_well l ≡ true → length s.counts ≡ l.size.rows * l.size.columns
    → sheet_well (job_of l) s ≡ false → unless (sheet_causes l s more) a ≡ refused (record { number = not_ours; first = 0; second = 0 })
unfolding sheet_causes unless
refused_by_8 l s more a job full wrong = rw (job, eq-eqb (length s.counts) (l.size.rows * l.size.columns) full, wrong)
