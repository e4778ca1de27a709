-- Document 01, 'Job text' and 'Start, layout text, sheet': what is read at a position is written there just as the writer writes it. A
-- word that is passed stands there; "a number has 1 to 5 digits, with a leading zero only in 0 itself", so a number has one
-- spelling; fields and lines follow. Assumes nothing.
use Rattle.list_laws.proofs.Kit.{◌∙◌, ◌≡◌, ap, refl, sym, Bool, ◌&&◌, ◌||◌, false, false≢true, not, true, ⊎_elim, List, [], ◌++◌, ◌∷◌, append_assoc}
use Rattle.list_laws.proofs.Kit.{append-nil, ◌%◌, ◌*◌, ◌+◌, ◌-◌, ◌/◌, ◌<◌, ◌≤◌, suc, zero, ℕ, add-zero, arith, eqb, leb, ltb, get_or, length, length-append}
use Rattle.list_laws.proofs.Kit.{ext_get_or, eq-eqb, eqb-false, eqb-true, le-ltb, leb-true, lt-ltb, ltb-true, not-true}
use Rattle.model.specs.Text.{byte, digit_zero, is_digit, Reading, wrong, got, stands_at, after, Digits, digits_from, digit_bound, is_number, number_at, field_at}
use Rattle.model.specs.Text.{fields_at, line_at, decimal, digits, fields_text, line_text}
use Rattle.list_laws.proofs.Tests.{and_left, and_right, or_cases, clash}
use Rattle.text_laws.proofs.Numbers.{AllDigits, value_from}
use Rattle.text_laws.proofs.Outcomes.{wrong_got, Onward, got_onward}

-- ── bytes that stand at a position ──

-- the bytes from position p up to q are these
pub record Spells (text : List ℕ) (p q : ℕ) (ds : List ℕ) : Type 0 where
  pub next : q ≡ p + length ds
  pub stands : stands_at ds text p ≡ true

-- the first byte of a word
first_step : (c p : ℕ) (cs text : List ℕ) (t : Bool) → eqb (byte text p) c ≡ t
    → elim t as (λ _. Bool) [ true ↦ stands_at cs text (suc p) | false ↦ false ] ≡ true
    → (byte text p ≡ c) × (stands_at cs text (suc p) ≡ true)
first_step c p cs text true h e = (eqb-true (byte text p) c h, e)
first_step c p cs text false h e = absurd (false≢true e)

-- a word that stands at p: its first byte, and the others behind it
pub stands_first : (c : ℕ) (cs text : List ℕ) (p : ℕ) → stands_at (c ∷ cs) text p ≡ true
    → (byte text p ≡ c) × (stands_at cs text (suc p) ≡ true)
unfolding stands_at
stands_first c cs text p e = first_step c p cs text (eqb (byte text p) c) refl e

-- a byte and a word behind it
stands_cons : (c : ℕ) (cs text : List ℕ) (p : ℕ) → byte text p ≡ c → stands_at cs text (suc p) ≡ true → stands_at (c ∷ cs) text p ≡ true
unfolding stands_at
stands_cons c cs text p h e = rw (eq-eqb (byte text p) c h, stands_at) e

-- a word and a word behind it
stands_append : (ds es text : List ℕ) (p : ℕ) → stands_at ds text p ≡ true → stands_at es text (p + length ds) ≡ true
    → stands_at (ds ++ es) text p ≡ true
stands_append [] es text p h k = rw add-zero at k
stands_append (d ∷ ds) es text p h k =
    let f = stands_first d ds text p h in
    let s : p + suc (length ds) ≡ suc p + length ds = omega arith in
    stands_cons d (ds ++ es) text p f.0 (stands_append ds es text (suc p) f.1 (rw s at k))

-- each byte of a word that stands
stands_at_lem : (ds text : List ℕ) (p i : ℕ) → stands_at ds text p ≡ true → i < length ds → byte text (p + i) ≡ get_or ds i 0
stands_at_lem [] text p i h l = absurd (omega arith)
stands_at_lem (d ∷ ds) text p zero h l = rw add-zero (stands_first d ds text p h).0
stands_at_lem (d ∷ ds) text p (suc i) h l =
    let s : p + suc i ≡ suc p + i = omega arith in
    ap (byte text) s ∙ stands_at_lem ds text (suc p) i (stands_first d ds text p h).1 (omega arith)

-- nothing
pub spells_none : (text : List ℕ) (p : ℕ) → Spells text p p []
unfolding stands_at
spells_none text p = record { next = sym (add-zero p); stands = refl }

-- one byte
pub spells_byte : (text : List ℕ) (p c : ℕ) → byte text p ≡ c → Spells text p (suc p) (c ∷ [])
unfolding stands_at
spells_byte text p c h = record { next = omega arith; stands = stands_cons c [] text p h refl }

-- one after the other
pub spells_then : {text : List ℕ} {p q r : ℕ} {ds es : List ℕ} → Spells text p q ds → Spells text q r es → Spells text p r (ds ++ es)
spells_then {text} {p} {q} {r} {ds} {es} a b =
    let k : stands_at es text (p + length ds) ≡ true = rw a.next at b.stands in
    record {
      next = let h = a.next in let g = b.next in omega (arith, length-append ds es);
      stands = stands_append ds es text p a.stands k;
    }

-- the same bytes up to the same position
pub spells_same : {text : List ℕ} {p q r : ℕ} {ds es : List ℕ} → Spells text p q ds → q ≡ r → ds ≡ es → Spells text p r es
spells_same a e f = rw (← e, ← f) a

-- bytes from the start to the end are the text
pub spells_whole : {text ds : List ℕ} → Spells text 0 (length text) ds → text ≡ ds
spells_whole {text} {ds} a =
    let size : length text ≡ length ds = let h = a.next in omega arith in
    ext_get_or 0 text ds size
    (λ i l. let s : 0 + i ≡ i = omega arith in ap (byte text) (sym s) ∙ stands_at_lem ds text 0 i a.stands (omega arith))

-- ── words ──

-- a word that is passed, and what is read behind it
pub record WordPassed {A : Type 0} (word text : List ℕ) (p : ℕ) (more : ℕ → Reading A) (a : A) (q : ℕ) : Type 0 where
  pub spells : Spells text p (p + length word) word
  pub goes : more (p + length word) ≡ got a q

-- the word is there, or nothing is read
passed_step : {A : Type 0} (word text : List ℕ) (p : ℕ) (more : ℕ → Reading A) (a : A) (q : ℕ) (t : Bool) → stands_at word text p ≡ t
    → elim t as (λ _. Reading A) [ true ↦ more (p + length word) | false ↦ wrong ] ≡ got a q → WordPassed word text p more a q
passed_step word text p more a q true h e = record { spells = record { next = refl; stands = h }; goes = e }
passed_step word text p more a q false h e = absurd (wrong_got e)

-- a reading behind a word passed the word
pub passed : {A : Type 0} (word text : List ℕ) (p : ℕ) (more : ℕ → Reading A) (a : A) (q : ℕ) → after word text p more ≡ got a q
    → WordPassed word text p more a q
passed word text p more a q e = passed_step word text p more a q (stands_at word text p) refl e

-- ── numbers ──

-- a run of digits: the digits that were taken
record Run (text : List ℕ) (p v left : ℕ) (d : Digits) : Type 0 where
  bytes : List ℕ
  all : AllDigits bytes
  spells : Spells text p d.next bytes
  value : d.value ≡ value_from v bytes
  short : length bytes ≤ left

-- one digit more, or the run ends
run_step : (text : List ℕ) (p v left : ℕ) (t : Bool) → is_digit (byte text p) ≡ t
    → Run text (suc p) (v * 10 + (byte text p - digit_zero)) left (digits_from text (suc p) (v * 10 + (byte text p - digit_zero)) left)
    → Run text p v (suc left)
    (elim t as (λ _. Digits)
    [ true ↦ digits_from text (suc p) (v * 10 + (byte text p - digit_zero)) left | false ↦ record { value = v; next = p } ])
run_step text p v left true h r =
    record {
      bytes = byte text p ∷ r.bytes;
      all = (h, r.all);
      spells =
          record {
            next = let n = r.spells.next in omega arith;
            stands = stands_cons (byte text p) r.bytes text p refl r.spells.stands;
          };
      value = r.value;
      short = let s = r.short in omega arith;
    }
run_step text p v left false h r =
    record { bytes = []; all = tt; spells = spells_none text p; value = refl; short = omega arith }

-- every run of digits
run : (text : List ℕ) (p v left : ℕ) → Run text p v left (digits_from text p v left)
unfolding digits_from
run text p v zero = record { bytes = []; all = tt; spells = spells_none text p; value = refl; short = omega arith }
run text p v (suc left) =
    run_step text p v left (is_digit (byte text p)) refl (run text (suc p) (v * 10 + (byte text p - digit_zero)) left)

-- a digit's value
digit_value : (d : ℕ) → is_digit d ≡ true → (digit_zero ≤ d) × (d < digit_zero + 10)
digit_value d e =
    let low : Bool = leb digit_zero d in
    let high : Bool = ltb d (digit_zero + 10) in
    (leb-true digit_zero d (and_left low high e), ltb-true d (digit_zero + 10) (and_right low high e))

-- one digit more is written behind the others
decimal_snoc : (places v d : ℕ) → 0 < v → is_digit d ≡ true → decimal (suc places) (v * 10 + (d - digit_zero)) ≡ decimal places v ++ (d ∷ [])
unfolding decimal
decimal_snoc places v d h e =
    let b = digit_value d e in
    let k : ℕ = v * 10 + (d - digit_zero) in
    let tenth : k / 10 ≡ v = omega arith in
    let last : digit_zero + k % 10 ≡ d = omega arith in
    rw (le-ltb k 10 (omega arith), tenth, last, decimal)

-- digits behind those of a number above 0 are written behind them
decimal_more : (places v : ℕ) (ds : List ℕ) → 0 < v → AllDigits ds → decimal (places + length ds) (value_from v ds) ≡ decimal places v ++ ds
decimal_more places v [] h all = rw (add-zero, append-nil)
decimal_more places v (d ∷ ds) h all =
    let b = digit_value d all.0 in
    let s : places + suc (length ds) ≡ suc places + length ds = omega arith in
    ap (λ (n : ℕ). decimal n (value_from (v * 10 + (d - digit_zero)) ds)) s
    ∙ decimal_more (suc places) (v * 10 + (d - digit_zero)) ds (omega arith) all.1
    ∙ ap (λ (l : List ℕ). l ++ ds) (decimal_snoc places v d h all.0)
    ∙ append_assoc (decimal places v) (d ∷ []) ds

-- one digit
decimal_one : (places d : ℕ) → is_digit d ≡ true → decimal (suc places) (d - digit_zero) ≡ d ∷ []
unfolding decimal
decimal_one places d e =
    let b = digit_value d e in
    let s : digit_zero + (d - digit_zero) ≡ d = omega arith in
    rw (lt-ltb (d - digit_zero) 10 (omega arith), decimal) (ap (λ (c : ℕ). c ∷ []) s)

-- digits with no leading zero are the one spelling of their value
one_spelling : (d : ℕ) (ds : List ℕ) → AllDigits (d ∷ ds) → length (d ∷ ds) ≤ digit_bound → (d ≡ digit_zero → ⊥)
    → digits (value_from 0 (d ∷ ds)) ≡ d ∷ ds
one_spelling d ds all short ne =
    let b = digit_value d all.0 in
    let above : 0 < d - digit_zero = let z : d - digit_zero ≡ 0 → ⊥ = λ e. ne (omega arith) in omega arith in
    let m : ℕ = 4 - length ds in
    let places : 5 ≡ suc m + length ds = omega arith in
    let first : 0 * 10 + (d - digit_zero) ≡ d - digit_zero = omega arith in
    ap (λ (v : ℕ). digits (value_from v ds)) first
    ∙ ap (λ (n : ℕ). decimal n (value_from (d - digit_zero) ds)) places
    ∙ decimal_more (suc m) (d - digit_zero) ds above all.1
    ∙ ap (λ (l : List ℕ). l ++ ds) (decimal_one m d all.0)

-- so are the digits of a number
number_bytes : (text : List ℕ) (p q : ℕ) (ds : List ℕ) → AllDigits ds → Spells text p q ds → length ds ≤ digit_bound
    → is_number text p q ≡ true
    → digits (value_from 0 ds) ≡ ds
number_bytes text p q [] all a short e =
    let same : q ≡ p = let n = a.next in omega arith in
    let d : Bool = is_digit (byte text p) in
    let two : (d && not (is_digit (byte text q))) ≡ true =
    and_left (d && not (is_digit (byte text q))) (not (eqb (byte text p) digit_zero) || eqb q (suc p)) e in
    let none : is_digit (byte text q) ≡ false = not-true (is_digit (byte text q)) (and_right d (not (is_digit (byte text q))) two) in
    absurd (clash (and_left d (not (is_digit (byte text q))) two) (rw same at none))
number_bytes text p q (d ∷ []) all a short e =
    let first : 0 * 10 + (d - digit_zero) ≡ d - digit_zero = omega arith in
    ap digits first ∙ decimal_one 4 d all.0
number_bytes text p q (d ∷ (c ∷ ds)) all a short e =
    let first : byte text p ≡ d = (stands_first d (c ∷ ds) text p a.stands).0 in
    let lead : (not (eqb (byte text p) digit_zero) || eqb q (suc p)) ≡ true =
    and_right (is_digit (byte text p) && not (is_digit (byte text q))) (not (eqb (byte text p) digit_zero) || eqb q (suc p)) e in
    one_spelling d (c ∷ ds) all short
    (λ z.
    ⊎_elim
    (λ (n : not (eqb (byte text p) digit_zero) ≡ true).
    eqb-false (byte text p) digit_zero (not-true (eqb (byte text p) digit_zero) n) (first ∙ z))
    (λ (n : eqb q (suc p) ≡ true). let l : q ≡ suc p = eqb-true q (suc p) n in let k = a.next in omega arith)
    (or_cases (not (eqb (byte text p) digit_zero)) (eqb q (suc p)) lead))

-- the digits are a number, or nothing is read
number_step : (text : List ℕ) (p k q : ℕ) (d : Digits) → Run text p 0 digit_bound d → (t : Bool) → is_number text p d.next ≡ t
    → elim t as (λ _. Reading ℕ) [ true ↦ got d.value d.next | false ↦ wrong ] ≡ got k q → Spells text p q (digits k)
number_step text p k q d r true h e =
    let value : d.value ≡ k = cc in
    let next : d.next ≡ q = cc in
    let spelling : digits k ≡ r.bytes =
    ap digits (sym value ∙ r.value) ∙ number_bytes text p d.next r.bytes r.all r.spells r.short h in
    rw (spelling, ← next) r.spells
number_step text p k q d r false h e = absurd (wrong_got e)

-- a number that is read is written there in its one spelling
pub number_spelled : (text : List ℕ) (p k q : ℕ) → number_at text p ≡ got k q → Spells text p q (digits k)
unfolding number_at
number_spelled text p k q e =
    let d : Digits = digits_from text p 0 digit_bound in
    number_step text p k q d (run text p 0 digit_bound) (is_number text p d.next) refl e

-- ── fields and lines ──

-- a field that is read
field_spelled : (end : ℕ) (text : List ℕ) (p k q : ℕ) → field_at end text p ≡ got k q → Spells text p q (digits k ++ (end ∷ []))
unfolding field_at
field_spelled end text p k q e =
    let ending : ℕ → ℕ → Reading ℕ = λ k' r. after (end ∷ []) text r (λ n. got k' n) in
    let o : Onward (number_at text p) ending k q = got_onward (number_at text p) ending k q e in
    let w : WordPassed (end ∷ []) text o.next (λ n. got o.value n) k q =
    passed (end ∷ []) text o.next (λ n. got o.value n) k q o.goes in
    let g : ◌≡◌ {A = Reading ℕ} (got o.value (o.next + 1)) (got k q) = w.goes in
    let value : o.value ≡ k = cc in
    let next : o.next + 1 ≡ q = cc in
    spells_same (spells_then (number_spelled text p o.value o.next o.reads) w.spells) next
    (ap (λ (n : ℕ). digits n ++ (end ∷ [])) value)

-- fields that are read: one a byte that ends one, each written there
pub record FieldsRead (ends text : List ℕ) (p q : ℕ) (ks : List ℕ) : Type 0 where
  pub size : length ks ≡ length ends
  pub spells : Spells text p q (fields_text ends ks)

-- they are so
pub fields_spelled : (ends text : List ℕ) (p : ℕ) (ks : List ℕ) (q : ℕ) → fields_at ends text p ≡ got ks q → FieldsRead ends text p q ks
unfolding fields_at fields_text
fields_spelled [] text p ks q e =
    let value : [] ≡ ks = cc in
    let next : p ≡ q = cc in
    rw (← value, ← next) (record { size = refl; spells = spells_none text p })
fields_spelled (end ∷ ends) text p ks q e =
    let o = got_onward (field_at end text p) _ ks q e in
    let o' = got_onward (fields_at ends text o.next) _ ks q o.goes in
    let g : ◌≡◌ {A = Reading (List ℕ)} (got (o.value ∷ o'.value) o'.next) (got ks q) = o'.goes in
    let value : o.value ∷ o'.value ≡ ks = cc in
    let next : o'.next ≡ q = cc in
    let first : Spells text p o.next (digits o.value ++ (end ∷ [])) = field_spelled end text p o.value o.next o.reads in
    let later : FieldsRead ends text o.next o'.next o'.value =
    fields_spelled ends text o.next o'.value o'.next o'.reads in
    let here : Spells text p o'.next (digits o.value ++ (end ∷ fields_text ends o'.value)) =
    rw append_assoc at (spells_then first later.spells) in
    record {
      size = ap length (sym value) ∙ ap suc later.size;
      spells = spells_same here next (ap (fields_text (end ∷ ends)) value);
    }

-- a line that is read
pub record SpelledLine (word ends text : List ℕ) (p q : ℕ) (ks : List ℕ) : Type 0 where
  pub size : length ks ≡ length ends
  pub spells : Spells text p q (line_text word ends ks)

-- it is written there
pub line_spelled : (word ends text : List ℕ) (p : ℕ) (ks : List ℕ) (q : ℕ) → line_at word ends text p ≡ got ks q
    → SpelledLine word ends text p q ks
line_spelled word ends text p ks q e =
    let w : WordPassed word text p (fields_at ends text) ks q = passed word text p (fields_at ends text) ks q e in
    let f : FieldsRead ends text (p + length word) q ks = fields_spelled ends text (p + length word) ks q w.goes in
    record { size = f.size; spells = spells_then w.spells f.spells }

-- three numbers are those by place
pub three_fields_lem : (ks : List ℕ) → length ks ≡ 3 → get_or ks 0 0 ∷ get_or ks 1 0 ∷ get_or ks 2 0 ∷ [] ≡ ks
three_fields_lem [] h = absurd (omega arith)
three_fields_lem (a ∷ []) h = absurd (omega arith)
three_fields_lem (a ∷ (b ∷ [])) h = absurd (omega arith)
three_fields_lem (a ∷ (b ∷ (c ∷ []))) h = refl
three_fields_lem (a ∷ (b ∷ (c ∷ (d ∷ ks)))) h = absurd (omega arith)

-- four numbers are those by place
pub four_fields_lem : (ks : List ℕ) → length ks ≡ 4 → get_or ks 0 0 ∷ get_or ks 1 0 ∷ get_or ks 2 0 ∷ get_or ks 3 0 ∷ [] ≡ ks
four_fields_lem [] h = absurd (omega arith)
four_fields_lem (a ∷ ks) h = ap (λ (l : List ℕ). a ∷ l) (three_fields_lem ks (omega arith))

-- five numbers are those by place
pub five_fields_lem : (ks : List ℕ) → length ks ≡ 5 → get_or ks 0 0 ∷ get_or ks 1 0 ∷ get_or ks 2 0 ∷ get_or ks 3 0 ∷ get_or ks 4 0 ∷ [] ≡ ks
five_fields_lem [] h = absurd (omega arith)
five_fields_lem (a ∷ ks) h = ap (λ (l : List ℕ). a ∷ l) (four_fields_lem ks (omega arith))
