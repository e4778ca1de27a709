-- Reading at a position, step by step. Assumes nothing.
use Rattle.list_laws.proofs.Kit.{◌∙◌, ◌≡◌, ◌&&◌, add-zero, eqb, Bool, ap, refl, sym, false, true, ◌⊎◌, inl, inr, ⊎_elim, List, [], ◌++◌, ◌∷◌, ◌%◌, ◌*◌, ◌+◌, ◌-◌, ◌/◌, ◌<◌, ◌≤◌, suc, zero, ℕ}
use Rattle.list_laws.proofs.Kit.{le_refl, arith, leb, ltb, get_or-eq_default, get_or, length, length-append, eq-eqb, le-ltb, leb-false}
use Rattle.list_laws.proofs.Kit.{leb-true, lt-ltb, ltb-false, ltb-true, ne_eqb}
use Rattle.model.specs.Text.{byte, is_digit, is_number, as_number, Digits, digits_from, number_at, stands_at, after, field_at, Reading, got, wrong, onward, decimal}
use Rattle.model.specs.Bounded.{all_below}
use Rattle.list_laws.proofs.Bounded.{all_at, all_from}
use Rattle.list_laws.proofs.Tests.{and_both, and_left, and_right, decided, same_tests}
use Rattle.text_fields.specs.Answers.{number_of, digit_run}
use Rattle.std.specs.Prelude.{Some, None}
use Rattle.text_fields.specs.declared.Number.{Number}
use Rattle.text_fields.specs.declared.reading.DigitRun.{DigitRun}

-- ── bytes ──

-- a byte that is not 0 lies in the text
pub byte_inside : (text : List ℕ) (p : ℕ) → 0 < byte text p → p < length text
byte_inside text p h =
    ⊎_elim (λ o. let e : byte text p ≡ 0 = get_or-eq_default text 0 (leb-true (length text) p o) in absurd (omega arith))
    (λ o. leb-false (length text) p o) (decided (leb (length text) p))

-- a digit is one of ten bytes
pub digit_range : (b : ℕ) → is_digit b ≡ true → (48 ≤ b) × (b < 58)
digit_range b e = (leb-true 48 b (and_left (leb 48 b) (ltb b 58) e), ltb-true b 58 (and_right (leb 48 b) (ltb b 58) e))

-- a digit lies in the text
pub digit_inside : (text : List ℕ) (p : ℕ) → is_digit (byte text p) ≡ true → p < length text
digit_inside text p e = let h = digit_range (byte text p) e in byte_inside text p (omega arith)

-- ── runs of digits ──

-- a digit goes on
pub digits_more : (text : List ℕ) (p v left : ℕ) → is_digit (byte text p) ≡ true
    → digits_from text p v (suc left) ≡ digits_from text (suc p) (v * 10 + (byte text p - 48)) left
unfolding digits_from
digits_more text p v left e = rw (e, digits_from)

-- another byte ends the run
pub digits_end : (text : List ℕ) (p v left : ℕ) → is_digit (byte text p) ≡ false → digits_from text p v (suc left) ≡ record { value = v; next = p }
unfolding digits_from
digits_end text p v left e = rw (e, digits_from)

-- nothing is left to read
pub digits_none : (text : List ℕ) (p v : ℕ) → digits_from text p v 0 ≡ record { value = v; next = p }
unfolding digits_from
digits_none text p v = refl

-- the largest value with `left` more digits behind v
abbrev pub largest : ℕ → ℕ → ℕ
largest v zero = v
largest v (suc left) = largest (v * 10 + 9) left

-- it grows with v
pub largest_grows : (left v u : ℕ) → v ≤ u → largest v left ≤ largest u left
largest_grows zero v u h = h
largest_grows (suc left) v u h = largest_grows left (v * 10 + 9) (u * 10 + 9) (omega arith)

-- it is no less than v
pub largest_above : (left v : ℕ) → v ≤ largest v left
largest_above zero v = le_refl v
largest_above (suc left) v = let h = largest_above left (v * 10 + 9) in omega arith

-- ── numbers ──

-- the run is a number
as_got : (text : List ℕ) (p : ℕ) (d : Digits) → is_number text p d.next ≡ true → as_number text p d ≡ got d.value d.next
as_got text p d h = rw (h, as_number)

pub number_got : (text : List ℕ) (p : ℕ) (run : DigitRun) → run ≡ digit_run (digits_from text p 0 5) → is_number text p run.next ≡ true
    → number_of (number_at text p) ≡ Some (record { value = run.value; next = run.next })
unfolding number_at
number_got text p run e h =
    let d : Digits = digits_from text p 0 5 in
    let n : run.next ≡ d.next = ap (λ (r : DigitRun). r.next) e in
    let v : run.value ≡ d.value = ap (λ (r : DigitRun). r.value) e in
    rw (v, n) (ap number_of (as_got text p d (rw n at h)))

-- the run is no number
as_wrong : (text : List ℕ) (p : ℕ) (d : Digits) → is_number text p d.next ≡ false → as_number text p d ≡ wrong
as_wrong text p d h = rw (h, as_number)

pub number_wrong : (text : List ℕ) (p : ℕ) (run : DigitRun) → run ≡ digit_run (digits_from text p 0 5) → is_number text p run.next ≡ false
    → number_of (number_at text p) ≡ None
unfolding number_at
number_wrong text p run e h =
    let d : Digits = digits_from text p 0 5 in
    let n : run.next ≡ d.next = ap (λ (r : DigitRun). r.next) e in
    ap number_of (as_wrong text p d (rw n at h))

-- no digit, no number
pub number_none : (text : List ℕ) (p : ℕ) → is_digit (byte text p) ≡ false → number_of (number_at text p) ≡ None
unfolding number_at
number_none text p h =
    let d : Digits = digits_from text p 0 5 in
    let n : is_number text p d.next ≡ false = rw h in
    ap number_of (as_wrong text p d n)

-- ── fields ──

-- what an answer says of what is read
pub got_of : (r : Reading ℕ) (n : Number) → Some n ≡ number_of r → r ≡ got n.value n.next
got_of wrong n e = cc
got_of (got j q) n e = cc

pub wrong_of : (r : Reading ℕ) → None ≡ number_of r → r ≡ wrong
wrong_of wrong e = refl
wrong_of (got j q) e = cc

-- a field without a number
pub field_none : (text : List ℕ) (p end : ℕ) → number_at text p ≡ wrong → number_of (field_at end text p) ≡ None
unfolding field_at
field_none text p end e = rw e

-- another byte stands there
pub one_not : (text : List ℕ) (q c : ℕ) → (byte text q ≡ c → ⊥) → stands_at (c ∷ []) text q ≡ false
unfolding stands_at
one_not text q c h = rw (ne_eqb (byte text q) c h, stands_at)

-- the byte stands there
pub one_stands : (text : List ℕ) (q c : ℕ) → byte text q ≡ c → stands_at (c ∷ []) text q ≡ true
unfolding stands_at
one_stands text q c h = rw (eq-eqb (byte text q) c h, stands_at)

-- the word does not stand there
pub after_not : {A : Type 0} (word text : List ℕ) (p : ℕ) (more : ℕ → Reading A) → stands_at word text p ≡ false → after word text p more ≡ wrong
after_not word text p more h = rw (h, after)

-- the word stands there
pub after_word : {A : Type 0} (word text : List ℕ) (p : ℕ) (more : ℕ → Reading A) → stands_at word text p ≡ true
    → after word text p more ≡ more (p + length word)
after_word word text p more h = rw (h, after)

-- a number with another byte behind it
pub field_wrong : (text : List ℕ) (p end k q : ℕ) → number_at text p ≡ got k q → (byte text q ≡ end → ⊥) → number_of (field_at end text p) ≡ None
unfolding field_at
field_wrong text p end k q e h =
    ap (λ (r : Reading ℕ). number_of (onward r (λ j s. after (end ∷ []) text s (λ t. got j t)))) e
    ∙ ap number_of (after_not (end ∷ []) text q (λ t. got k t) (one_not text q end h))

-- a number with its end byte
pub field_got : (text : List ℕ) (p end k q : ℕ) → number_at text p ≡ got k q → byte text q ≡ end → number_of (field_at end text p) ≡ Some (record { value = k; next = q + 1 })
unfolding field_at
field_got text p end k q e h =
    ap (λ (r : Reading ℕ). number_of (onward r (λ j s. after (end ∷ []) text s (λ t. got j t)))) e
    ∙ ap number_of (after_word (end ∷ []) text q (λ t. got k t) (one_stands text q end h))

-- ── words ──

-- a byte of the word stands as far behind the position
abbrev pub there : List ℕ → List ℕ → ℕ → ℕ → Bool
there word text p k = eqb (byte text (p + k)) (get_or word k 0)

-- its first byte stands there and the others behind it
stands_both : (c : ℕ) (cs text : List ℕ) (p : ℕ) → stands_at (c ∷ cs) text p ≡ (eqb (byte text p) c && stands_at cs text (suc p))
unfolding stands_at
stands_both c cs text p = both (eqb (byte text p) c) (stands_at cs text (suc p))
  where
    both : (b d : Bool) → elim b as (λ _. Bool) [ true ↦ d | false ↦ false ] ≡ (b && d)
    both true d = refl
    both false d = refl

-- one place on in the word is one on in the text
there_next : (c : ℕ) (cs text : List ℕ) (p k : ℕ) → there (c ∷ cs) text p (suc k) ≡ there cs text (suc p) k
there_next c cs text p k = let i : p + suc k ≡ suc p + k = omega arith in ap (λ (j : ℕ). eqb (byte text j) (get_or cs k 0)) i

-- where each byte does, the word stands there
each_there : (word text : List ℕ) (p : ℕ) → ((k : ℕ) → k < length word → there word text p k ≡ true) → stands_at word text p ≡ true
unfolding stands_at
each_there [] text p h = refl
each_there (c ∷ cs) text p h =
    stands_both c cs text p
    ∙ and_both (rw add-zero at (h 0 (omega arith)))
    (each_there cs text (suc p) (λ k l. sym (there_next c cs text p k) ∙ h (suc k) (omega arith)))

-- where the word stands, each byte does
there_each : (word text : List ℕ) (p : ℕ) → stands_at word text p ≡ true → (k : ℕ) → k < length word → there word text p k ≡ true
there_each [] text p e k l = absurd (omega arith)
there_each (c ∷ cs) text p e zero l = rw add-zero (and_left (eqb (byte text p) c) (stands_at cs text (suc p)) (sym (stands_both c cs text p) ∙ e))
there_each (c ∷ cs) text p e (suc k) l =
    there_next c cs text p k
    ∙ there_each cs text (suc p) (and_right (eqb (byte text p) c) (stands_at cs text (suc p)) (sym (stands_both c cs text p) ∙ e)) k (omega arith)

pub all_there : (word text : List ℕ) (p : ℕ) → all_below (length word) (there word text p) ≡ stands_at word text p
all_there word text p =
    same_tests _ _ (λ e. each_there word text p (all_at (length word) (there word text p) e))
    (λ e. all_from (length word) (there word text p) (there_each word text p e))

-- ── writing ──

-- no places, no digits
pub decimal_none : (k : ℕ) → decimal 0 k ≡ []
unfolding decimal
decimal_none k = refl

-- one digit
pub decimal_one : (places k : ℕ) → k < 10 → decimal (suc places) k ≡ (48 + k) ∷ []
unfolding decimal
decimal_one places k h = rw (lt-ltb k 10 h, decimal)

-- the last digit behind the others
pub decimal_more : (places k : ℕ) → 10 ≤ k → decimal (suc places) k ≡ decimal places (k / 10) ++ ((48 + (k % 10)) ∷ [])
unfolding decimal
decimal_more places k h = rw (le-ltb k 10 h, decimal)

-- no more digits than places
pub decimal_short : (places k : ℕ) → length (decimal places k) ≤ places
unfolding decimal
decimal_short zero k = le_refl 0
decimal_short (suc places) k = go (decided (ltb k 10)) (decimal_short places (k / 10))
  where
    go : (ltb k 10 ≡ true) ⊎ (ltb k 10 ≡ false) → length (decimal places (k / 10)) ≤ places → length (decimal (suc places) k) ≤ suc places
    go (inl t) h = rw (decimal_one places k (ltb-true k 10 t)) (omega arith)
    go (inr f) h = rw (decimal_more places k (ltb-false k 10 f), length-append) (omega arith)
