-- Document 01, 'Job text' and 'Start, layout text, sheet': what the two texts are made of. A text is the list of its bytes. Words
-- and numbers are read at a position and written one after the other. Past the end of the text every byte counts as 0, which
-- no rule accepts, so that a text that ends too early is of wrong form. Assumes nothing.
use Rattle.std.specs.Prelude.{Bool, true, false, not, ◌&&◌, ◌||◌, List, [], ◌∷◌, ◌++◌, ℕ, zero, suc, ◌+◌, ◌-◌, ◌*◌, ◌/◌, ◌%◌, leb, ltb, eqb, length, get_or}
use Prim.Native.Char.{code}
use Prim.Native.String.{String, [] as []ᵗ, ◌∷◌ as ◌∷ᵗ◌}
use Rattle.model.specs.Refusal.{Outcome, refused, given, Cause, wrong_form}

-- ── bytes ──

-- the bytes of a quoted text of plain characters
abbrev pub bytes : String → List ℕ
bytes []ᵗ = []
bytes (c ∷ᵗ s) = code c ∷ bytes s

-- the byte at position p, 0 past the end
abbrev pub byte : List ℕ → ℕ → ℕ
byte text p = get_or text p 0

-- the comma, which parts fields
abbrev pub comma : ℕ
comma = 44

-- byte 10, which ends a line
abbrev pub line_end : ℕ
line_end = 10

-- the byte of the digit 0; the others follow it
abbrev pub digit_zero : ℕ
digit_zero = 48

-- the byte is a digit
abbrev pub is_digit : ℕ → Bool
is_digit b = leb digit_zero b && ltb b (digit_zero + 10)

-- ── reading at a position ──

-- what reading at a position comes to: what is read and the position after it, or wrong form
pub data Reading (A : Type 0) : Type 0 where
  wrong : Reading A
  got : A → ℕ → Reading A

-- wrong form ends the reading; else it goes on
abbrev pub onward : {A B : Type 0} → Reading A → (A → ℕ → Reading B) → Reading B
onward wrong more = wrong
onward (got a p) more = more a p

-- the word stands at position p
unfoldable pub stands_at : List ℕ → List ℕ → ℕ → Bool
stands_at [] text p = true
stands_at (c ∷ cs) text p = elim (eqb (byte text p) c) [ true ↦ stands_at cs text (suc p) | false ↦ false ]

-- reading goes on after the word where it stands at position p; else the form is wrong
abbrev pub after : {A : Type 0} → List ℕ → List ℕ → ℕ → (ℕ → Reading A) → Reading A
after word text p more = elim (stands_at word text p) [ true ↦ more (p + length word) | false ↦ wrong ]

-- ── numbers ──

-- a run of digits: its value and the position after it
pub record Digits : Type 0 where
  pub value : ℕ
  pub next : ℕ

-- at most `left` digits from position p on, in front of them digits of the value v
unfoldable pub digits_from : List ℕ → ℕ → ℕ → ℕ → Digits
digits_from text p v zero = record { value = v; next = p }
digits_from text p v (suc left) =
    elim (is_digit (byte text p))
    [ true ↦ digits_from text (suc p) (v * 10 + (byte text p - digit_zero)) left | false ↦ record { value = v; next = p } ]

-- a number has 1 to 5 digits
abbrev pub digit_bound : ℕ
digit_bound = 5

-- the digits from position p to q are a number: one at least, no further one after at most 5, a leading zero only in 0 itself
abbrev pub is_number : List ℕ → ℕ → ℕ → Bool
is_number text p q =
    is_digit (byte text p) && not (is_digit (byte text q)) && (not (eqb (byte text p) digit_zero) || eqb q (suc p))

-- the run of digits from position p on as a number
abbrev pub as_number : List ℕ → ℕ → Digits → Reading ℕ
as_number text p d = elim (is_number text p d.next) [ true ↦ got d.value d.next | false ↦ wrong ]

-- the number at position p
unfoldable pub number_at : List ℕ → ℕ → Reading ℕ
number_at text p = as_number text p (digits_from text p 0 digit_bound)

-- ── fields ──

-- a field: a number and the byte that ends it
unfoldable pub field_at : ℕ → List ℕ → ℕ → Reading ℕ
field_at end text p = onward (number_at text p) (λ k q. after (end ∷ []) text q (λ r. got k r))

-- a field for each of the given end bytes
unfoldable pub fields_at : List ℕ → List ℕ → ℕ → Reading (List ℕ)
fields_at [] text p = got [] p
fields_at (end ∷ ends) text p =
    onward (field_at end text p) (λ k q. onward (fields_at ends text q) (λ ks r. got (k ∷ ks) r))

-- the end bytes of the last three fields of a line
abbrev pub three_fields : List ℕ
three_fields = comma ∷ comma ∷ line_end ∷ []

-- the end bytes of the last four fields of a line
abbrev pub four_fields : List ℕ
four_fields = comma ∷ comma ∷ comma ∷ line_end ∷ []

-- the end bytes of the last five fields of a line
abbrev pub five_fields : List ℕ
five_fields = comma ∷ comma ∷ comma ∷ comma ∷ line_end ∷ []

-- a line of a word and fields
abbrev pub line_at : List ℕ → List ℕ → List ℕ → ℕ → Reading (List ℕ)
line_at word ends text p = after word text p (fields_at ends text)

-- a reading, or another where it is wrong
abbrev pub or_else : {A : Type 0} → Reading A → Reading A → Reading A
or_else wrong other = other
or_else (got a p) other = got a p

-- the k-th of the numbers read, from 0
abbrev pub field : List ℕ → ℕ → ℕ
field ks k = get_or ks k 0

-- ── writing ──

-- a number of at most so many digits in base ten, without leading zeros
unfoldable pub decimal : ℕ → ℕ → List ℕ
decimal zero k = []
decimal (suc places) k =
    elim (ltb k 10) [ true ↦ (digit_zero + k) ∷ [] | false ↦ decimal places (k / 10) ++ ((digit_zero + (k % 10)) ∷ []) ]

-- a number of at most 5 digits
abbrev pub digits : ℕ → List ℕ
digits k = decimal digit_bound k

-- numbers, each with its end byte
unfoldable pub fields_text : List ℕ → List ℕ → List ℕ
fields_text [] ks = []
fields_text (end ∷ ends) [] = []
fields_text (end ∷ ends) (k ∷ ks) = digits k ++ (end ∷ fields_text ends ks)

-- a line of a word and numbers
abbrev pub line_text : List ℕ → List ℕ → List ℕ → List ℕ
line_text word ends ks = word ++ fields_text ends ks

-- ── refusals of a text ──

-- a cause that names a line
abbrev pub cause_in : ℕ → ℕ → Bool → Cause
cause_in line number there = record { there = there; number = number; first = line; second = 0 }

-- a line of wrong form refuses with 1; else the call goes on
abbrev pub formed : {A B : Type 0} → ℕ → Reading A → (A → ℕ → Outcome B) → Outcome B
formed line wrong more = refused (record { number = wrong_form; first = line; second = 0 })
formed line (got a p) more = more a p

-- a refusal stays; else the call goes on
abbrev pub and_then : {A B : Type 0} → Outcome A → (A → Outcome B) → Outcome B
and_then (refused r) more = refused r
and_then (given a) more = more a
