-- What a reading leaves in the lent table and pixel store, as long as it goes well. Assumes nothing.
use Rattle.std.specs.Prelude.{Result, Ok, Err, Bool, true, false, List, ◌≡◌, ◌+◌, ℕ, eqb, ltb}
use Rattle.std.proofs.lemmas.List.Edits.{sets}
use Rattle.model.specs.Refusal.{Outcome, refused, given}
use Rattle.model.specs.Bounded.{any_below}
use Rattle.model.specs.Text.{byte, Reading, wrong, got}
use Rattle.model.specs.JobText.{pixel_mark, empty_mark, Rows}
use Rattle.model.specs.declared.Refusal.{Refusal}

-- the pixel byte of a mark, `#` pixel, `.` none; 2 for a byte that is no mark
abbrev pub mark_bit : ℕ → ℕ
mark_bit b = elim (eqb b pixel_mark) [ true ↦ 1 | false ↦ elim (eqb b empty_mark) [ true ↦ 0 | false ↦ 2 ] ]

-- one of so many bytes from p on is no mark
abbrev pub some_wrong : List ℕ → ℕ → ℕ → Bool
some_wrong text p count = any_below count (λ k. ltb 1 (mark_bit (byte text (p + k))))

-- wrong form is answered no; what is read is answered yes and stored from `at` on
abbrev pub MarksStored : ℕ → List ℕ → List ℕ → Bool → Reading (List ℕ) → Type 0
MarksStored at before after r wrong = r ≡ false
MarksStored at before after r (got ms q) = (r ≡ true) × (after ≡ sets before at ms)

-- the position after row lines, or their refusal
abbrev pub rows_answer : Outcome Rows → Result ℕ Refusal
rows_answer (refused r) = Err r
rows_answer (given x) = Ok x.next

-- rows that are read are stored from `at` on
abbrev pub RowsStored : ℕ → List ℕ → List ℕ → Outcome Rows → Type 0
RowsStored at before after (refused r) = Unit {0}
RowsStored at before after (given x) = after ≡ sets before at x.pixels
