-- A line's fields read one after the other: the numbers so far stand in front of those that are left to read. Assumes nothing.
use Rattle.list_laws.proofs.Kit.{◌∙◌, ◌≡◌, ap, refl, sym, List, [], ◌∷◌, ◌+◌, ◌-◌, ◌<◌, ◌≤◌, suc, zero, ℕ, arith, length, set, get_or-set_other}
use Rattle.list_laws.proofs.Kit.{get_or-set_same}
use Rattle.model.specs.Text.{Reading, wrong, got, onward, comma, field_at, fields_at, three_fields, four_fields, field}
use Rattle.text_numbers.specs.Lines.{end_byte, field_ends, in_front}

-- ── end bytes ──

-- three and four of them are the model's
pub three_ends : field_ends 3 ≡ three_fields
three_ends = refl

pub four_ends : field_ends 4 ≡ four_fields
four_ends = refl

-- a comma where a field is behind
pub comma_before : (behind : ℕ) → (behind ≡ 0 → ⊥) → comma ≡ end_byte behind
comma_before zero h = absurd (h refl)
comma_before (suc behind) h = refl

-- ── numbers in a buffer ──

-- a number stored behind the first k leaves them
front_kept : (numbers ks : List ℕ) (j k v : ℕ) → j ≤ k → in_front (set numbers k v) j ks ≡ in_front numbers j ks
front_kept numbers ks zero k v h = refl
front_kept numbers ks (suc j) k v h =
    front_kept numbers (field (set numbers k v) j ∷ ks) j k v (omega arith)
    ∙ ap (λ (n : ℕ). in_front numbers j (n ∷ ks)) (get_or-set_other numbers k j v 0 (λ e. omega arith))

-- it is the next of them
front_stored : (numbers ks : List ℕ) (k v : ℕ) → k < length numbers → in_front (set numbers k v) (suc k) ks ≡ in_front numbers k (v ∷ ks)
front_stored numbers ks k v h =
    ap (λ (n : ℕ). in_front (set numbers k v) k (n ∷ ks)) (get_or-set_same numbers k v 0 h) ∙ front_kept numbers (v ∷ ks) k k v (omega arith)

-- a number stored at place k leaves zeros behind it
pub zeros_kept : (numbers : List ℕ) (k v : ℕ) → ((j : ℕ) → k ≤ j → field numbers j ≡ 0) → (j : ℕ) → k + 1 ≤ j → field (set numbers k v) j ≡ 0
zeros_kept numbers k v h j l = get_or-set_other numbers k j v 0 (λ e. omega arith) ∙ h j (omega arith)

-- ── fields ──

-- the numbers so far in front of what is left to read
abbrev pub read_on : List ℕ → ℕ → Reading (List ℕ) → Reading (List ℕ)
read_on numbers k r = onward r (λ ks next. got (in_front numbers k ks) next)

-- one more number read and stored
read_stored : (numbers : List ℕ) (k v : ℕ) → k < length numbers → (r : Reading (List ℕ))
    → read_on (set numbers k v) (suc k) r ≡ read_on numbers k (onward r (λ ks next. got (v ∷ ks) next))
read_stored numbers k v h wrong = refl
read_stored numbers k v h (got ks next) = ap (λ (l : List ℕ). got l next) (front_stored numbers ks k v h)

-- the next field, with `behind` fields behind it, is read
more_behind : (text numbers : List ℕ) (p k behind v q : ℕ) → k < length numbers → field_at (end_byte behind) text p ≡ got v q
    → read_on (set numbers k v) (suc k) (fields_at (field_ends behind) text q) ≡ read_on numbers k (fields_at (field_ends (suc behind)) text p)
unfolding fields_at
more_behind text numbers p k behind v q h e = read_stored numbers k v h (fields_at (field_ends behind) text q) ∙ sym (rw (e, fields_at))

-- the next field is wrong
wrong_behind : (text numbers : List ℕ) (p k behind : ℕ) → field_at (end_byte behind) text p ≡ wrong
    → read_on numbers k (fields_at (field_ends (suc behind)) text p) ≡ wrong
unfolding fields_at
wrong_behind text numbers p k behind e = rw (e, fields_at)

-- field k of `count`, which ends with its own end byte
module _ (text numbers : List ℕ) (p k count end : ℕ) (below : k < count) (ends : end ≡ end_byte (count - k - 1)) where
  -- fields are left
  left : count - k ≡ suc (count - k - 1)
  left = omega arith

  -- it is read and stored
  pub read_more : (v q : ℕ) → k < length numbers → field_at end text p ≡ got v q
      → read_on (set numbers k v) (k + 1) (fields_at (field_ends (count - (k + 1))) text q)
      ≡ read_on numbers k (fields_at (field_ends (count - k)) text p)
  read_more v q h e =
      let one : k + 1 ≡ suc k = omega arith in
      let rest : count - (k + 1) ≡ count - k - 1 = omega arith in
      let f : field_at (end_byte (count - k - 1)) text p ≡ got v q = ap (λ (b : ℕ). field_at b text p) (sym ends) ∙ e in
      ap (λ (n : ℕ). read_on (set numbers k v) (k + 1) (fields_at (field_ends n) text q)) rest
      ∙ ap (λ (n : ℕ). read_on (set numbers k v) n (fields_at (field_ends (count - k - 1)) text q)) one
      ∙ more_behind text numbers p k (count - k - 1) v q h f ∙ sym (ap (λ (n : ℕ). read_on numbers k (fields_at (field_ends n) text p)) left)

  -- it is wrong
  pub read_wrong : field_at end text p ≡ wrong → read_on numbers k (fields_at (field_ends (count - k)) text p) ≡ wrong
  read_wrong e =
      ap (λ (n : ℕ). read_on numbers k (fields_at (field_ends n) text p)) left
      ∙ wrong_behind text numbers p k (count - k - 1) (ap (λ (b : ℕ). field_at b text p) (sym ends) ∙ e)

-- no field is left
pub read_all : (text numbers : List ℕ) (p count k : ℕ) → k ≡ count
    → read_on numbers k (fields_at (field_ends (count - k)) text p) ≡ got (in_front numbers count []) p
unfolding fields_at
read_all text numbers p count k e =
    let none : count - k ≡ 0 = omega arith in
    ap (λ (n : ℕ). read_on numbers k (fields_at (field_ends n) text p)) none ∙ ap (λ (n : ℕ). got (in_front numbers n []) p) e
