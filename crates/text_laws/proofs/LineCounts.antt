-- Document 01, 'When a call says no', reading: "First place: line, from 1". A line that is read has one line end, its last byte, so the
-- next line begins just behind it and its number is one more. Assumes nothing.
use Rattle.list_laws.proofs.Kit.{◌∙◌, ◌≡◌, ap, refl, sym, Bool, false, true, inl, inr, List, [], ◌++◌, ◌∷◌, map, ◌%◌, ◌+◌, ◌/◌, ◌<◌, ◌≤◌, suc, zero, ℕ}
use Rattle.list_laws.proofs.Kit.{add-zero, arith, eqb, ltb, get_or-eq_default, length, ltb-false, ltb-true, ne_eqb}
use Rattle.model.specs.Bounded.{one_if}
use Rattle.model.specs.Text.{byte, line_end, digit_zero, stands_at, three_fields, four_fields, five_fields, decimal, digits, fields_text, line_text}
use Rattle.model.specs.JobText.{row_word, pixel_mark, empty_mark}
use Rattle.text_laws.specs.JobWriting.{mark, row_text}
use Rattle.text_laws.specs.LinePlaces.{line_ends, Behind, LineBegins}
use Rattle.text_laws.proofs.Spelling.{Spells, stands_first}

-- ── line ends among bytes ──

-- how many of the bytes are line ends
abbrev pub ends_in : List ℕ → ℕ
ends_in [] = 0
ends_in (c ∷ cs) = one_if (eqb c line_end) + ends_in cs

-- the last byte, 0 where there is none
abbrev pub last_of : List ℕ → ℕ
last_of [] = 0
last_of (c ∷ []) = c
last_of (c ∷ (d ∷ cs)) = last_of (d ∷ cs)

-- line ends one after the other
ends_append : (cs ds : List ℕ) → ends_in (cs ++ ds) ≡ ends_in cs + ends_in ds
ends_append [] ds = omega arith
ends_append (c ∷ cs) ds = let h = ends_append cs ds in omega arith

-- the last byte stands behind the others
last_behind : (cs : List ℕ) (d : ℕ) (ds : List ℕ) → last_of (cs ++ (d ∷ ds)) ≡ last_of (d ∷ ds)
last_behind [] d ds = refl
last_behind (c ∷ []) d ds = refl
last_behind (c ∷ (b ∷ cs)) d ds = last_behind (b ∷ cs) d ds

-- bytes that end with a line end do so behind others too
last_append : (cs ds : List ℕ) → last_of ds ≡ line_end → last_of (cs ++ ds) ≡ line_end
last_append cs [] e = absurd (omega arith)
last_append cs (d ∷ ds) e = last_behind cs d ds ∙ e

-- the line ends up to the position behind bytes that stand there
ends_counted : (ds text : List ℕ) (p : ℕ) → stands_at ds text p ≡ true → line_ends text (p + length ds) ≡ line_ends text p + ends_in ds
unfolding line_ends
ends_counted [] text p h = rw (add-zero p) (omega arith)
ends_counted (d ∷ ds) text p h =
    let f = stands_first d ds text p h in
    let s : p + suc (length ds) ≡ suc p + length ds = omega arith in
    let later : line_ends text (suc p + length ds) ≡ line_ends text (suc p) + ends_in ds = ends_counted ds text (suc p) f.1 in
    let here : one_if (eqb (byte text p) line_end) ≡ one_if (eqb d line_end) = ap (λ (b : ℕ). one_if (eqb b line_end)) f.0 in
    ap (line_ends text) s ∙ later ∙ (omega arith)

-- the position behind bytes that stand there is behind the last of them
last_stands : (ds text : List ℕ) (p : ℕ) → stands_at ds text p ≡ true → last_of ds ≡ line_end → Behind text (p + length ds)
last_stands [] text p h e = absurd (omega arith)
last_stands (d ∷ []) text p h e = record { last = p; next = omega arith; ends = (stands_first d [] text p h).0 ∙ e }
last_stands (d ∷ (c ∷ ds)) text p h e =
    let b : Behind text (suc p + length (c ∷ ds)) = last_stands (c ∷ ds) text (suc p) (stands_first d (c ∷ ds) text p h).1 e in
    record { last = b.last; next = let n = b.next in omega arith; ends = b.ends }

-- a line end stands in the text, so the position behind it is at most its end
behind_within : {text : List ℕ} {p : ℕ} → Behind text p → p ≤ length text
behind_within {text} {p} b = step (ltb b.last (length text)) refl
  where
    step : (t : Bool) → ltb b.last (length text) ≡ t → p ≤ length text
    step true h = let l : b.last < length text = ltb-true b.last (length text) h in let n = b.next in omega arith
    step false h =
        let l : length text ≤ b.last = ltb-false b.last (length text) h in
        let z : byte text b.last ≡ 0 = get_or-eq_default text 0 l in
        let e = b.ends in
        absurd (omega arith)

-- ── one line ──

-- bytes that are one line: one line end, the last of them
pub record OneLine (ds : List ℕ) : Type 0 where
  pub ends : ends_in ds ≡ 1
  pub last : last_of ds ≡ line_end

-- behind a line begins the next
pub line_then : {text : List ℕ} {line p q : ℕ} {ds : List ℕ} → LineBegins text line p → Spells text p q ds → OneLine ds
    → LineBegins text (suc line) q
line_then {text} {line} {p} {q} {ds} b s o =
    let behind : Behind text q = rw s.next (last_stands ds text p s.stands o.last) in
    record {
      counted =
          let c = ends_counted ds text p s.stands in
          let e = o.ends in
          let k = b.counted in
          let n = s.next in
          rw n (omega arith);
      behind = inr behind;
      within = behind_within behind;
    }

-- the first line begins at the start
pub first_line : (text : List ℕ) → LineBegins text 1 0
unfolding line_ends
first_line text = record { counted = refl; behind = inl refl; within = omega arith }

-- ── lines of numbers ──

-- a digit is no line end
digit_no_end : (d : ℕ) → one_if (eqb (digit_zero + d) line_end) ≡ 0
digit_no_end d = rw (ne_eqb (digit_zero + d) line_end (λ e. omega arith))

-- the last digit, alone or behind the others
decimal_step : (places k : ℕ) (t : Bool) → ends_in (decimal places (k / 10)) ≡ 0
    → ends_in (elim t as (λ _. List ℕ) [ true ↦ (digit_zero + k) ∷ [] | false ↦ decimal places (k / 10) ++ ((digit_zero + (k % 10)) ∷ []) ])
    ≡ 0
decimal_step places k true h = let d = digit_no_end k in omega arith
decimal_step places k false h =
    let d = digit_no_end (k % 10) in
    ends_append (decimal places (k / 10)) ((digit_zero + (k % 10)) ∷ []) ∙ (omega arith)

-- a written number has no line end
decimal_no_end : (places k : ℕ) → ends_in (decimal places k) ≡ 0
unfolding decimal
decimal_no_end zero k = refl
decimal_no_end (suc places) k = decimal_step places k (ltb k 10) (decimal_no_end places (k / 10))

-- fields have the line ends of their end bytes
fields_ends : (ends ks : List ℕ) → length ks ≡ length ends → ends_in (fields_text ends ks) ≡ ends_in ends
unfolding fields_text
fields_ends [] ks h = refl
fields_ends (end ∷ ends) [] h = absurd (omega arith)
fields_ends (end ∷ ends) (k ∷ ks) h =
    let a = ends_append (digits k) (end ∷ fields_text ends ks) in
    let d : ends_in (digits k) ≡ 0 = decimal_no_end 5 k in
    let later : ends_in (fields_text ends ks) ≡ ends_in ends = fields_ends ends ks (omega arith) in
    a ∙ (omega arith)

-- fields end with their last end byte
fields_last : (ends ks : List ℕ) → length ks ≡ length ends → last_of (fields_text ends ks) ≡ last_of ends
unfolding fields_text
fields_last [] ks h = refl
fields_last (end ∷ ends) [] h = absurd (omega arith)
fields_last (end ∷ []) (k ∷ ks) h = last_behind (digits k) end []
fields_last (end ∷ (e ∷ ends)) (k ∷ []) h = absurd (omega arith)
fields_last (end ∷ (e ∷ ends)) (k ∷ (k' ∷ ks)) h =
    last_behind (digits k) end (fields_text (e ∷ ends) (k' ∷ ks))
    ∙ last_behind (end ∷ digits k') e (fields_text ends ks)
    ∙ sym (last_behind (digits k') e (fields_text ends ks))
    ∙ fields_last (e ∷ ends) (k' ∷ ks) (omega arith)

-- a word without a line end and numbers, the last of which a line end ends, are one line
pub line_one : (word ends ks : List ℕ) → ends_in word ≡ 0 → OneLine ends → length ks ≡ length ends → OneLine (line_text word ends ks)
line_one word ends ks w o h =
    let a = ends_append word (fields_text ends ks) in
    let f : ends_in (fields_text ends ks) ≡ ends_in ends = fields_ends ends ks h in
    let e = o.ends in
    record {
      ends = a ∙ (omega arith);
      last = last_append word (fields_text ends ks) (fields_last ends ks h ∙ o.last);
    }

-- ── row lines ──

-- a mark is no line end
mark_no_end : (t : Bool) → one_if (eqb (elim t as (λ _. ℕ) [ true ↦ pixel_mark | false ↦ empty_mark ]) line_end) ≡ 0
mark_no_end true = refl
mark_no_end false = refl

-- marks have no line end
marks_no_end : (ms : List ℕ) → ends_in (map mark ms) ≡ 0
marks_no_end [] = refl
marks_no_end (m ∷ ms) = let h = marks_no_end ms in let k = mark_no_end (eqb m 1) in omega arith

-- a row line is one line
pub row_one : (ms : List ℕ) → OneLine (row_text ms)
row_one ms =
    let marks : ends_in (map mark ms) ≡ 0 = marks_no_end ms in
    let a = ends_append (map mark ms) (line_end ∷ []) in
    let b = ends_append row_word (map mark ms ++ (line_end ∷ [])) in
    record {
      ends = b ∙ (omega arith);
      last = last_append row_word (map mark ms ++ (line_end ∷ [])) (last_append (map mark ms) (line_end ∷ []) refl);
    }

-- ── the lines of the two texts ──

-- a word without a line end and three numbers
pub three_line : {text : List ℕ} {line p q : ℕ} (word : List ℕ) (a b c : ℕ) → ends_in word ≡ 0 → LineBegins text line p
    → Spells text p q (line_text word three_fields (a ∷ b ∷ c ∷ [])) → LineBegins text (suc line) q
three_line word a b c w h s = line_then h s (line_one word three_fields (a ∷ b ∷ c ∷ []) w (record { ends = refl; last = refl }) refl)

-- a word without a line end and four numbers
pub four_line : {text : List ℕ} {line p q : ℕ} (word : List ℕ) (a b c d : ℕ) → ends_in word ≡ 0 → LineBegins text line p
    → Spells text p q (line_text word four_fields (a ∷ b ∷ c ∷ d ∷ [])) → LineBegins text (suc line) q
four_line word a b c d w h s = line_then h s (line_one word four_fields (a ∷ b ∷ c ∷ d ∷ []) w (record { ends = refl; last = refl }) refl)

-- a word without a line end and five numbers
pub five_line : {text : List ℕ} {line p q : ℕ} (word : List ℕ) (a b c d e : ℕ) → ends_in word ≡ 0 → LineBegins text line p
    → Spells text p q (line_text word five_fields (a ∷ b ∷ c ∷ d ∷ e ∷ [])) → LineBegins text (suc line) q
five_line word a b c d e w h s = line_then h s (line_one word five_fields (a ∷ b ∷ c ∷ d ∷ e ∷ []) w (record { ends = refl; last = refl }) refl)
