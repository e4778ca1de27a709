-- Loops over the sums at the places of a line: the least one so far, and sums to which a line is added. Assumes nothing.
use Rattle.list_laws.proofs.Kit.{◌∙◌, ◌≡◌, ap, ap₂, refl, subst, sym, Bool, ◌||◌, false, true, zero, suc, List}
use Rattle.list_laws.proofs.Kit.{◌*◌, ◌+◌, ◌-◌, ◌<◌, ◌≤◌, ℕ, mul-le-mul, arith, get_or, length, set}
use Rattle.list_laws.proofs.Kit.{◌⊎◌, inl, inr, ⊎_elim, add-one, drop, get_or-drop, length-drop, ltb, ltb-false, ltb-true}
use Rattle.list_laws.proofs.Numbers.{below_or}
use Rattle.list_laws.proofs.Ranges.{any_in_list}
use Rattle.list_laws.proofs.Tests.{same_tests}
use Rattle.list_laws.proofs.Bounded.{any_witness, any_from, any_none}
use Rattle.list_laws.proofs.Passes.{Passing, pass_none, pass_over, pass_set}
use Rattle.std.specs.List.{list_any}
use Rattle.model.specs.Bounded.{any_below}
use Rattle.search_laws.specs.BoundedSearch.{below_bound}
use Rattle.search_laws.proofs.BoundedSearch.{answer_of, answer_begin, answer_lower, answer_keep, answer_some, answer_none, whole_serves}
use Rattle.search_line_sums.specs.Answers.{found_answer, NoneBelow}
use Rattle.search_line_sums.specs.Added.{LineAdded}
use Rattle.std.specs.Prelude.{Some, None}

-- the sum at a place
abbrev pub sum_of : List ℕ → ℕ → ℕ
sum_of sums a = get_or sums a 0

-- ── some sum below a bound ──

-- the tests below n, asked one after the other
abbrev ors : ℕ → (ℕ → Bool) → Bool
ors zero f = false
ors (suc n) f = ors n f || f n

-- that is the search
any_ors : (n : ℕ) (f : ℕ → Bool) → ors n f ≡ any_below n f
any_ors zero f = refl
any_ors (suc n) f = ap (λ (a : Bool). a || f n) (any_ors n f) ∙ last (any_below n f) (f n)
  where
    last : (a b : Bool) → (a || b) ≡ elim b as (λ _. Bool) [ true ↦ true | false ↦ a ]
    last true true = refl
    last true false = refl
    last false true = refl
    last false false = refl

-- four of them
pub any_four : (f : ℕ → Bool) (b : Bool) → b ≡ f 0 → (((b || f 1) || f 2) || f 3) ≡ any_below 4 f
any_four f b e = ap (λ (a : Bool). ((a || f 1) || f 2) || f 3) e ∙ any_ors 4 f

-- the tests from a place on
abbrev pub below_at : List ℕ → ℕ → ℕ → ℕ → Bool
below_at sums bound at k = ltb (get_or sums (at + k) 0) bound

-- one of four sums is below the bound
pub four_some : (sums : List ℕ) (bound at : ℕ) → at + 4 ≤ length sums → any_below 4 (below_at sums bound at) ≡ true
    → any_below (length sums) (λ a. ltb (get_or sums a 0) bound) ≡ true
four_some sums bound at l e =
    let w = any_witness 4 (below_at sums bound at) e in
    any_from (length sums) (at + w.number) (λ a. ltb (get_or sums a 0) bound) (omega (arith, w.below)) w.passing

-- none of them is
pub four_none : (sums : List ℕ) (bound at : ℕ) → at + 4 ≤ length sums → any_below 4 (below_at sums bound at) ≡ false → NoneBelow sums bound at
    → NoneBelow sums bound (at + 4)
four_none sums bound at l e h = record { inside = l; each = λ k b. go k b (below_or k at) }
  where
    go : (k : ℕ) → k < at + 4 → (k < at) ⊎ (at ≤ k) → bound ≤ get_or sums k 0
    go k b (inl m) = h.each k m
    go k b (inr m) =
        let z : at + (k - at) ≡ k = omega arith in
        ltb-false (get_or sums k 0) bound (ap (λ (i : ℕ). ltb (get_or sums i 0) bound) (sym z) ∙ any_none 4 (below_at sums bound at) e (k - at) (omega arith))

-- some sum from a place on is below the bound, where none before it is
pub below_tail : (sums : List ℕ) (bound from : ℕ) → NoneBelow sums bound from
    → list_any (λ sum. ltb sum bound) (drop from sums) ≡ any_below (length sums) (λ a. ltb (get_or sums a 0) bound)
below_tail sums bound from h =
    any_in_list (λ sum. ltb sum bound) (drop from sums) 0
    ∙ same_tests _ _
    (λ e.
    let w = any_witness (length (drop from sums)) (λ k. ltb (get_or (drop from sums) k 0) bound) e in
    let l = w.below in
    any_from (length sums) (from + w.number) (λ a. ltb (get_or sums a 0) bound) (omega (arith, length-drop from sums)) (rw get_or-drop at w.passing))
    (λ e.
    let w = any_witness (length sums) (λ a. ltb (get_or sums a 0) bound) e in
    let l = w.below in
    let under = ltb-true (get_or sums w.number 0) bound w.passing in
    let behind : from ≤ w.number = ⊎_elim (λ b. absurd (omega (arith, h.each w.number b))) (λ b. b) (below_or w.number from) in
    let place : from + (w.number - from) ≡ w.number = omega arith in
    any_from (length (drop from sums)) (w.number - from) (λ k. ltb (get_or (drop from sums) k 0) bound) (omega (arith, length-drop from sums))
    (rw (get_or-drop from sums (w.number - from) 0, place) w.passing))

-- ── the least sum ──

-- `low` and `at` are the answer for the places below a
pub record Scanned (sums : List ℕ) (bound low at a : ℕ) : Type 0 where
  pub within : low ≤ bound
  pub passed : at ≤ a
  pub answer : below_bound (sum_of sums) a bound ≡ answer_of bound low at

-- before the first place
pub scan_begin : (sums : List ℕ) (bound : ℕ) → Scanned sums bound bound 0 0
scan_begin sums bound = record { within = omega arith; passed = omega arith; answer = answer_begin (sum_of sums) bound 0 }

module _ (sums : List ℕ) (bound low at a : ℕ) (s : Scanned sums bound low at a) where
  -- a lower sum takes its place
  pub scan_lower : get_or sums a 0 < low → Scanned sums bound (get_or sums a 0) a (a + 1)
  scan_lower l =
      let w = s.within in
      record {
        within = omega arith;
        passed = omega arith;
        answer = answer_lower (sum_of sums) a bound low at (get_or sums a 0) s.answer s.within (whole_serves low (get_or sums a 0)) l;
      }

  -- another changes nothing
  pub scan_keep : low ≤ get_or sums a 0 → Scanned sums bound low at (a + 1)
  scan_keep l =
      let p = s.passed in
      record {
        within = s.within;
        passed = omega arith;
        answer = answer_keep (sum_of sums) a bound low at (get_or sums a 0) s.answer s.within (whole_serves low (get_or sums a 0)) l;
      }

  -- after the last place: one was found
  pub scan_found : a ≡ length sums → low < bound → Some (record { sum = low; at = at }) ≡ found_answer (below_bound (sum_of sums) (length sums) bound)
  scan_found e l = sym (ap found_answer (subst (λ (n : ℕ). below_bound (sum_of sums) n bound ≡ answer_of bound low at) e s.answer ∙ answer_some bound low at l))

  -- or none was
  pub scan_none : a ≡ length sums → bound ≤ low → None ≡ found_answer (below_bound (sum_of sums) (length sums) bound)
  scan_none e l = sym (ap found_answer (subst (λ (n : ℕ). below_bound (sum_of sums) n bound ≡ answer_of bound low at) e s.answer ∙ answer_none bound low at l))

-- where no sum is below the bound, none changes anything
scan_all : (sums : List ℕ) (bound n : ℕ) → ((k : ℕ) → k < n → ltb (get_or sums k 0) bound ≡ false) → Scanned sums bound bound 0 n
scan_all sums bound zero h = scan_begin sums bound
scan_all sums bound (suc n) h =
    subst (Scanned sums bound bound 0) (add-one n)
    (scan_keep sums bound bound 0 n (scan_all sums bound n (λ k l. h k (omega arith))) (ltb-false (get_or sums n 0) bound (h n (omega arith))))

pub scan_nothing : (sums : List ℕ) (bound : ℕ) → any_below (length sums) (λ a. ltb (get_or sums a 0) bound) ≡ false
    → None ≡ found_answer (below_bound (sum_of sums) (length sums) bound)
scan_nothing sums bound e =
    scan_none sums bound bound 0 (length sums)
    (scan_all sums bound (length sums) (any_none (length sums) (λ a. ltb (get_or sums a 0) bound) e)) refl (omega arith)

-- ── adding a line ──

-- weight × penalty is below 2²⁴
pub part_small : (w p : ℕ) → w ≤ 65535 → p < 256 → w * p < 16777216
part_small w p a b = let m : w * p ≤ 65535 * 255 = mul-le-mul a (let s : p ≤ 255 = omega arith in s) in omega arith

-- what a sum becomes
pub record Raised (weight low : ℕ) (line before : List ℕ) (a y : ℕ) : Type 0 where
  pub under : a < low → y ≡ get_or before a 0
  pub over : low ≤ a → y ≡ get_or before a 0 + weight * get_or line (a - low) 0

module _ (weight low : ℕ) (line before : List ℕ) where
  -- the sums below `low` stay
  pub raise_begin : Passing (Raised weight low line before) before before (low + 0)
  raise_begin =
      pass_over (Raised weight low line before) before before 0 (low + 0) (omega arith)
      (λ j a b. record { under = λ c. refl; over = λ c. absurd (omega arith) }) (pass_none (Raised weight low line before) before)

  -- one more sum
  pub raise_step : (after : List ℕ) (k y : ℕ) → y ≡ get_or after (low + k) 0 + weight * get_or line k 0 → low + k < length after
      → Passing (Raised weight low line before) before after (low + k) → Passing (Raised weight low line before) before (set after (low + k) y) (low + (k + 1))
  raise_step after k y v l w =
      let e : low + k - low ≡ k = omega arith in
      let f : low + k + 1 ≡ low + (k + 1) = omega arith in
      subst (Passing (Raised weight low line before) before (set after (low + k) y)) f
      (pass_set (Raised weight low line before) before after (low + k) y l
      (record {
        under = λ c. absurd (omega arith);
        over = λ c. v ∙ ap₂ (λ (x i : ℕ). x + weight * get_or line i 0) (w.rest (low + k) (omega arith)) (sym e);
      }) w)

  -- all sums are passed
  pub raise_end : (after : List ℕ) (k : ℕ) → k ≡ length line → Passing (Raised weight low line before) before after (low + k)
      → LineAdded weight low line before after
  raise_end after k e w =
      record {
        same = w.same;
        part = λ i b.
            let h : low + i - low ≡ i = omega arith in
            (w.done (low + i) (omega arith)).over (omega arith) ∙ ap (λ (z : ℕ). get_or before (low + i) 0 + weight * get_or line z 0) h;
        below = λ a b. (w.done a (omega arith)).under b;
        above = λ a b. w.rest a (omega arith);
      }
