-- From what the definitions read to the answers of this crate's calls. Assumes nothing.
use Rattle.std.specs.Prelude.{Option, Some, None, List, ◌≡◌, ℕ, ◌≤◌, length}
use Rattle.model.specs.Text.{Reading, wrong, got, Digits}
use Rattle.text_fields.specs.declared.Number.{Number}
use Rattle.text_fields.specs.declared.reading.DigitRun.{DigitRun}

-- a number that is read, with the position after it, or wrong form
abbrev pub number_of : Reading ℕ → Option Number
number_of wrong = None
number_of (got k p) = Some (record { value = k; next = p })

-- a run of digits
abbrev pub digit_run : Digits → DigitRun
digit_run d = record { value = d.value; next = d.next }

-- the number that is read; 0 where none is
abbrev pub value_in : Option Number → ℕ
value_in None = 0
value_in (Some n) = n.value

-- the position after it; 0 where none is
abbrev pub number_next : Option Number → ℕ
number_next None = 0
number_next (Some n) = n.next

-- the answer is the definition's; what is read lies in the text and has at most 5 digits
pub record Reads (r : Option Number) (reading : Reading ℕ) (text : List ℕ) : Type 0 where
  pub same : r ≡ number_of reading
  pub inside : number_next r ≤ length text
  pub small : value_in r ≤ 99999
