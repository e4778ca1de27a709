-- The test of an entry, part by part, and what a record of entries that pass it says of a laid piece. Assumes nothing.
use Rattle.list_laws.proofs.Kit.{◌≡◌, ◌&&◌, and-true, false, true, List, ◌*◌, ℕ, ltb, length, eq-eqb}
use Rattle.model.specs.Bounded.{all_below}
use Rattle.model.specs.Layout.{Job, allowed, inside}
use Rattle.model.specs.Lent.{piece_bound}
use Rattle.model.specs.Cover.{Sheet, entry_in, is_blank, entry_well, sheet_well}
use Rattle.model.specs.declared.Entry.{Entry}
use Rattle.sheet_check.specs.Counted.{counts_well}

module _ (j : Job) (es : List Entry) (i : ℕ) (e : Entry) (same : e ≡ entry_in es i) where
  -- a blank entry passes
  pub blank_passes : is_blank e ≡ true → true ≡ entry_well j es i
  unfolding entry_well
  blank_passes b = rw (← same, b)

  -- an entry that is neither blank nor laid fails
  pub free_fails : is_blank e ≡ false → e.laid ≡ false → false ≡ entry_well j es i
  unfolding entry_well
  free_fails b free = rw (← same, b, free)

  -- so does a laid one that is no piece of the job in an allowed turn
  pub unknown_fails : is_blank e ≡ false → e.laid ≡ true → (ltb i j.size.count && allowed j i e.place.turn) ≡ false → false ≡ entry_well j es i
  unfolding entry_well
  unknown_fails b laid none = rw (← same, b, laid, none)

  -- and the rest pass where they are inside
  pub inside_passes : is_blank e ≡ false → e.laid ≡ true → (ltb i j.size.count && allowed j i e.place.turn) ≡ true
      → inside j i e.place ≡ entry_well j es i
  unfolding entry_well
  inside_passes b laid here = rw (← same, b, laid, here)

-- of the test of a sheet whose record and counts have their lengths, the tests of the entries and of the counts are left
pub sheet_tests : (j : Job) (s : Sheet) → length s.pieces ≡ piece_bound → length s.counts ≡ j.size.rows * j.size.columns
    → sheet_well j s ≡ (all_below piece_bound (entry_well j s.pieces) && counts_well j s.pieces s.counts)
unfolding sheet_well
sheet_tests j s many full = rw (eq-eqb (length s.pieces) piece_bound many, eq-eqb (length s.counts) (j.size.rows * j.size.columns) full, and-true)
