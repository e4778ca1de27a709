-- The end bytes of a line's fields, and from the answers of this crate's calls to what the definitions read. Assumes nothing.
use Rattle.std.specs.Prelude.{Option, Some, None, List, [], ◌∷◌, ◌≡◌, ℕ, zero, suc, ◌≤◌, length}
use Rattle.model.specs.Text.{Reading, wrong, got, comma, line_end, field}
use Rattle.text_numbers.specs.declared.LineNumbers.{LineNumbers}

-- the byte that ends a field with so many fields behind it: byte 10 after the last, a comma else
abbrev pub end_byte : ℕ → ℕ
end_byte zero = line_end
end_byte (suc behind) = comma

-- the end bytes of the last k fields of a line; three are the model's three_fields, four its
-- four_fields, five its five_fields
abbrev pub field_ends : ℕ → List ℕ
field_ends zero = []
field_ends (suc k) = end_byte k ∷ field_ends k

-- the first k numbers of a buffer, in front of others
abbrev pub in_front : List ℕ → ℕ → List ℕ → List ℕ
in_front numbers zero ks = ks
in_front numbers (suc k) ks = in_front numbers k (field numbers k ∷ ks)

-- the first `count` numbers and the position after them, or wrong form
abbrev pub form_reading : ℕ → Option LineNumbers → Reading (List ℕ)
form_reading count None = wrong
form_reading count (Some r) = got (in_front r.numbers count []) r.next

-- the numbers behind the first `count` are 0, where the form is right
abbrev pub ZeroBehind : ℕ → Option LineNumbers → Type 0
ZeroBehind count None = Unit {0}
ZeroBehind count (Some r) = (k : ℕ) → count ≤ k → field r.numbers k ≡ 0

-- the position after the line; 0 where the form is wrong
abbrev pub after_form : Option LineNumbers → ℕ
after_form None = 0
after_form (Some r) = r.next

-- the first `count` numbers are what the definition reads, the others are 0, and the line lies in the text
pub record ReadsLine (r : Option LineNumbers) (count : ℕ) (reading : Reading (List ℕ)) (text : List ℕ) : Type 0 where
  pub same : reading ≡ form_reading count r
  pub others : ZeroBehind count r
  pub inside : after_form r ≤ length text
