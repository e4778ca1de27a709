-- Document 01, 'Job text': "A number has 1 to 5 digits, with a leading zero only in 0 itself." What `decimal` writes is a number, and
-- reading gives it back. A number's digits are taken from the front by the reader and added at the end by the writer; both
-- give the value `value_from`. Assumes nothing.
use Rattle.list_laws.proofs.Kit.{◌∙◌, ◌≡◌, ap, refl, sym, Bool, ◌||◌, false, not, true, List, [], ◌++◌, ◌∷◌, ◌%◌, ◌*◌, ◌+◌, ◌-◌, ◌/◌, ◌<◌, ◌^◌, ◌≤◌, suc}
use Rattle.list_laws.proofs.Kit.{zero, ℕ, add-zero, pow-suc, arith, eqb, ltb, get_or, length, length-append, eq-eqb, le-leb, lt-ltb, ltb-false, ltb-true}
use Rattle.list_laws.proofs.Kit.{ne_eqb}
use Rattle.model.specs.Text.{byte, digit_zero, is_digit, got, digits_from, digit_bound, is_number, as_number, number_at, decimal, digits}
use Rattle.list_laws.proofs.Tests.{and_both, or_left, or_right}
use Rattle.text_laws.proofs.Ahead.{Ahead, ahead_after, ahead_byte, ahead_word, ahead_next}

-- ── runs of digits ──

-- all bytes are digits
abbrev pub AllDigits : List ℕ → Type 0
AllDigits [] = Unit {0}
AllDigits (d ∷ ds) = (is_digit d ≡ true) × AllDigits ds

-- the value of digits that stand after digits of the value v
abbrev pub value_from : ℕ → List ℕ → ℕ
value_from v [] = v
value_from v (d ∷ ds) = value_from (v * 10 + (d - digit_zero)) ds

-- one more digit at the end
all_snoc : (ds : List ℕ) (d : ℕ) → AllDigits ds → is_digit d ≡ true → AllDigits (ds ++ (d ∷ []))
all_snoc [] d all e = (e, tt)
all_snoc (c ∷ ds) d all e = (all.0, all_snoc ds d all.1 e)

-- the value with one more digit at the end
value_snoc : (v : ℕ) (ds : List ℕ) (d : ℕ) → value_from v (ds ++ (d ∷ [])) ≡ value_from v ds * 10 + (d - digit_zero)
value_snoc v [] d = refl
value_snoc v (c ∷ ds) d = value_snoc (v * 10 + (c - digit_zero)) ds d

-- digits that lie ahead, no more than are asked for and with no digit after them, are taken whole
pub digits_ahead : {text : List ℕ} {p : ℕ} (v left : ℕ) (ds : List ℕ) (c : ℕ) (rest : List ℕ) → Ahead text p (ds ++ (c ∷ rest))
    → AllDigits ds → is_digit c ≡ false → length ds ≤ left
    → digits_from text p v left ≡ record { value = value_from v ds; next = p + length ds }
unfolding digits_from
digits_ahead {text} {p} v zero [] c rest a all e l = rw (add-zero p)
digits_ahead {text} {p} v (suc left) [] c rest a all e l = rw (ahead_byte a, e, digits_from, add-zero p)
digits_ahead {text} {p} v zero (d ∷ ds) c rest a all e l = absurd (omega arith)
digits_ahead {text} {p} v (suc left) (d ∷ ds) c rest a all e l =
    let next : p + suc (length ds) ≡ suc p + length ds = omega arith in
    rw (ahead_byte a, all.0, digits_from)
    (rw (ahead_byte a, next) (digits_ahead (v * 10 + (d - digit_zero)) left ds c rest (ahead_next a) all.1 e (omega arith)))

-- ── what is written ──

-- the digits of k, at most so many
pub record DecimalWritten (places k : ℕ) (ds : List ℕ) : Type 0 where
  pub all : AllDigits ds
  pub short : length ds ≤ places
  pub some : 0 < length ds
  pub value : value_from 0 ds ≡ k
  pub leading : 0 < k → get_or ds 0 0 ≡ digit_zero → ⊥
  pub single : k < 10 → length ds ≡ 1

-- a digit's byte
digit_byte : (d : ℕ) → d < 10 → is_digit (digit_zero + d) ≡ true
digit_byte d h = and_both (le-leb digit_zero (digit_zero + d) (omega arith)) (lt-ltb (digit_zero + d) (digit_zero + 10) (omega arith))

-- the first of digits with one more at the end
first_snoc : (ds : List ℕ) (d : ℕ) → 0 < length ds → get_or (ds ++ (d ∷ [])) 0 0 ≡ get_or ds 0 0
first_snoc [] d h = absurd (omega arith)
first_snoc (c ∷ ds) d h = refl

-- the last digit is written: all of a number below 10, else behind the digits of the tenth part
written_step : (places k : ℕ) (b : Bool) → ltb k 10 ≡ b → (10 ≤ k → DecimalWritten places (k / 10) (decimal places (k / 10)))
    → DecimalWritten (suc places) k (elim b as (λ _. List ℕ) [ true ↦ (digit_zero + k) ∷ [] | false ↦ decimal places (k / 10) ++ ((digit_zero + (k % 10)) ∷ []) ])
written_step places k true e earlier =
    let h : k < 10 = ltb-true k 10 e in
    record {
      all = (digit_byte k h, tt);
      short = omega arith;
      some = omega arith;
      value = omega arith;
      leading = λ pos zero-byte. omega arith;
      single = λ _. refl;
    }
written_step places k false e earlier =
    let h : 10 ≤ k = ltb-false k 10 e in
    let w : DecimalWritten places (k / 10) (decimal places (k / 10)) = earlier h in
    let ds : List ℕ = decimal places (k / 10) in
    let l : length (ds ++ ((digit_zero + (k % 10)) ∷ [])) ≡ length ds + 1 = length-append ds ((digit_zero + (k % 10)) ∷ []) in
    record {
      all = all_snoc ds (digit_zero + (k % 10)) w.all (digit_byte (k % 10) (omega arith));
      short = let s = w.short in omega arith;
      some = omega arith;
      value = value_snoc 0 ds (digit_zero + (k % 10)) ∙ (let v = w.value in omega arith);
      leading = λ pos zero-byte. w.leading (omega arith) (sym (first_snoc ds (digit_zero + (k % 10)) w.some) ∙ zero-byte);
      single = λ small. absurd (omega arith);
    }

-- `decimal` writes the number, where it has no more digits than are allowed
pub decimal_written : (places k : ℕ) → k < 10 ^ suc places → DecimalWritten (suc places) k (decimal (suc places) k)
unfolding decimal
decimal_written zero k h = written_step zero k (ltb k 10) refl (λ l. absurd (omega arith))
decimal_written (suc places) k h =
    let b : k < 10 ^ suc places * 10 = rw pow-suc at h in
    written_step (suc places) k (ltb k 10) refl (λ l. decimal_written places (k / 10) (omega arith))

-- ── reading what is written ──

-- five digits suffice up to 99,999
digits_written : (k : ℕ) → k ≤ 99999 → DecimalWritten digit_bound k (digits k)
digits_written k h = decimal_written 4 k (omega arith)

-- a leading zero stands only in 0 itself
leading_zero : (p q : ℕ) {places k d : ℕ} {ds : List ℕ} → DecimalWritten places k (d ∷ ds) → q ≡ p + length (d ∷ ds) → (b : Bool) → ltb k 10 ≡ b
    → (not (eqb d digit_zero) || eqb q (suc p)) ≡ true
leading_zero p q {places} {k} {d} {ds} w e true small =
    or_right (not (eqb d digit_zero)) (eqb q (suc p))
    (eq-eqb q (suc p) (let s : length (d ∷ ds) ≡ 1 = w.single (ltb-true k 10 small) in omega arith))
leading_zero p q {places} {k} {d} {ds} w e false large =
    or_left (not (eqb d digit_zero)) (eqb q (suc p))
    (ap not (ne_eqb d digit_zero (w.leading (let l : 10 ≤ k = ltb-false k 10 large in omega arith))))

-- digits of a number that lie ahead, with no digit after them, are read as the number
number_ahead : {text : List ℕ} {p : ℕ} (k : ℕ) (ds : List ℕ) (c : ℕ) (rest : List ℕ) → DecimalWritten digit_bound k ds → is_digit c ≡ false
    → Ahead text p (ds ++ (c ∷ rest)) → number_at text p ≡ got k (p + length ds)
unfolding number_at
number_ahead {text} {p} k [] c rest w e a = absurd (let s = w.some in omega arith)
number_ahead {text} {p} k (d ∷ ds) c rest w e a =
    let q : ℕ = p + length (d ∷ ds) in
    let run : digits_from text p 0 digit_bound ≡ record { value = value_from 0 (d ∷ ds); next = q } =
    digits_ahead 0 digit_bound (d ∷ ds) c rest a w.all e w.short in
    let first : byte text p ≡ d = ahead_byte a in
    let last : byte text q ≡ c = ahead_byte (ahead_word (d ∷ ds) a) in
    let well : is_number text p q ≡ true =
    and_both
    (and_both (ap is_digit first ∙ w.all.0) (ap (λ (b : ℕ). not (is_digit b)) last ∙ ap not e))
    (ap (λ (b : ℕ). not (eqb b digit_zero) || eqb q (suc p)) first ∙ leading_zero p q w refl (ltb k 10) refl) in
    ap (as_number text p) run ∙ rw (well, as_number) (ap (λ (v : ℕ). got v q) w.value)

-- a written number that lies ahead, with no digit after it, is read as it was
pub written_ahead : {text : List ℕ} {p : ℕ} (k c : ℕ) (rest : List ℕ) → k ≤ 99999 → is_digit c ≡ false
    → Ahead text p (digits k ++ (c ∷ rest)) → number_at text p ≡ got k (p + length (digits k))
written_ahead k c rest h e a = number_ahead k (digits k) c rest (digits_written k h) e a

-- reading at the place where a number of at most 5 digits is written, a byte after it that is no digit, gives the number and the
-- position after it
pub number_read_back : (before : List ℕ) (k c : ℕ) (rest : List ℕ) → k ≤ 99999 → is_digit c ≡ false
    → number_at (before ++ (digits k ++ (c ∷ rest))) (length before) ≡ got k (length before + length (digits k))
number_read_back before k c rest h e = written_ahead k c rest h e (ahead_after before (digits k ++ (c ∷ rest)))
