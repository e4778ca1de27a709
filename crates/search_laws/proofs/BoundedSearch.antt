-- A search with a bound: the least of f 0, .., f (n - 1) with the smallest number that has it, if it is below the bound. It is what the line
-- search and the trial of document 01 come to (LineSearch). A value counts only where it is below the limit, the best sum so far or the
-- bound, so a value that reaches the limit need not be known exactly: a lower bound that reaches it will do, and so will a running sum
-- that stops there. Assumes nothing.
use Rattle.list_laws.proofs.Kit.{◌∙◌, ◌≡◌, ap, ap₂, refl, sym, Bool, false, true, ◌⊎◌, inl, inr, ⊎_elim, Option, none, some, ◌%◌, ◌*◌, ◌+◌, ◌-◌, ◌/◌, ◌<◌}
use Rattle.list_laws.proofs.Kit.{◌≤◌, min, suc, zero, ℕ, add-one, div-add-mod', eq-or-lt_of_le, le_trans, mod-lt, mul-add, mul_comm, mul-le-mul_left, mul-one}
use Rattle.list_laws.proofs.Kit.{arith, ltb, le-ltb, lt-ltb, ltb-false, ltb-true, dec_lt}
use Rattle.model.specs.Bounded.{sum_below}
use Rattle.model.specs.Search.{Best}
use Rattle.list_laws.proofs.Sums.{sum_grows}
use Rattle.list_laws.proofs.Numbers.{below_suc}
use Rattle.search_laws.specs.BoundedSearch.{best_at, limit, lowered, below_bound, Serves}

-- ── one value ──

-- a value below the limit is the best now
pub lowered_less : (B : ℕ) (o : Option Best) (x n : ℕ) → x < limit B o → lowered B o x n ≡ some (best_at x n)
unfolding lowered
lowered_less B o x n l = rw (lt-ltb x (limit B o) l, lowered)

-- a value that reaches the limit changes nothing
pub lowered_kept : (B : ℕ) (o : Option Best) (x n : ℕ) → limit B o ≤ x → lowered B o x n ≡ o
unfolding lowered
lowered_kept B o x n l = rw (le-ltb x (limit B o) l, lowered)

-- the step of the loop
pub step_value : (f : ℕ → ℕ) (n B : ℕ) → below_bound f (n + 1) B ≡ lowered B (below_bound f n B) (f n) n
unfolding below_bound
step_value f n B = rw (add-one n)

-- the step of the loop: a value below the limit
pub step_lower : (f : ℕ → ℕ) (n B : ℕ) → f n < limit B (below_bound f n B) → below_bound f (n + 1) B ≡ some (best_at (f n) n)
step_lower f n B l = step_value f n B ∙ lowered_less B (below_bound f n B) (f n) n l

-- the step of the loop: a value that reaches the limit
pub step_keep : (f : ℕ → ℕ) (n B : ℕ) → limit B (below_bound f n B) ≤ f n → below_bound f (n + 1) B ≡ below_bound f n B
step_keep f n B l = step_value f n B ∙ lowered_kept B (below_bound f n B) (f n) n l

-- ── values that are not known exactly ──

-- what serves gives the same result
pub serves_lowered : (B : ℕ) (o : Option Best) (x y n : ℕ) → Serves (limit B o) x y → lowered B o y n ≡ lowered B o x n
serves_lowered B o x y n s = by_test (dec_lt x (limit B o))
  where
    by_test : Dec (x < limit B o) → lowered B o y n ≡ lowered B o x n
    by_test (yes l) = ap (λ a. lowered B o a n) (s.exact l)
    by_test (no h) = lowered_kept B o y n (s.reaches (omega arith)) ∙ sym (lowered_kept B o x n (omega arith))

-- the step of the loop with what serves for the value
pub step_serves : (f : ℕ → ℕ) (n B y : ℕ) → Serves (limit B (below_bound f n B)) (f n) y
    → below_bound f (n + 1) B ≡ lowered B (below_bound f n B) y n
step_serves f n B y s = step_value f n B ∙ sym (serves_lowered B (below_bound f n B) (f n) y n s)

-- a whole search with what serves for each value
pub search_serves : (f g : ℕ → ℕ) (n B : ℕ) → ((k : ℕ) → k < n → Serves (limit B (below_bound f k B)) (f k) (g k))
    → below_bound g n B ≡ below_bound f n B
unfolding below_bound
search_serves f g zero B s = refl
search_serves f g (suc n) B s =
    ap (λ o. lowered B o (g n) n) (search_serves f g n B (λ k l. s k (omega arith)))
    ∙ serves_lowered B (below_bound f n B) (f n) (g n) n (s n (omega arith))

-- a value that is a lower bound of f n and reaches the limit: the number is passed over
pub step_passed : (f : ℕ → ℕ) (n B y : ℕ) → y ≤ f n → limit B (below_bound f n B) ≤ y → below_bound f (n + 1) B ≡ below_bound f n B
step_passed f n B y l h = step_keep f n B (le_trans h l)

-- a lower bound that reaches the limit serves
pub reaching_serves : (L x y : ℕ) → y ≤ x → L ≤ y → Serves L x y
reaching_serves L x y l h = record { exact = λ b. absurd (omega arith); reaches = λ b. h }

-- a value serves for itself
pub whole_serves : (L x : ℕ) → Serves L x x
whole_serves L x = record { exact = λ b. refl; reaches = λ b. b }

-- a value cut off at a cap serves for the value by that cap
pub capped_serves : (cap p : ℕ) → Serves cap p (min p cap)
capped_serves cap p = record { exact = λ b. omega arith; reaches = λ b. omega arith }

-- a cap above every value does not count
pub topped_serves : (cap top p q : ℕ) → p < top → Serves (min cap top) p q → Serves cap p q
topped_serves cap top p q l s =
    record { exact = λ b. s.exact (omega arith); reaches = λ b. (let r = s.reaches (omega arith) in omega arith) }

-- one more part w × p of a running sum x: of p only what serves by a cap is needed, if the cap alone makes the sum reach the limit
pub serves_add : (L x total w p q cap : ℕ) → Serves L x total → total < L → L ≤ total + w * cap → Serves cap p q
    → Serves L (x + w * p) (total + w * q)
serves_add L x total w p q cap s below enough c = by_cap (dec_lt p cap)
  where
    same : total ≡ x
    same = by_limit (dec_lt x L)
      where
        by_limit : Dec (x < L) → total ≡ x
        by_limit (yes l) = s.exact l
        by_limit (no h) = absurd (let r = s.reaches (omega arith) in omega arith)

    by_cap : Dec (p < cap) → Serves L (x + w * p) (total + w * q)
    by_cap (yes l) = rw (same, c.exact l) (whole_serves L (x + w * p))
    by_cap (no h) =
        let e : total ≡ x = same in
        let at_least : w * cap ≤ w * p = mul-le-mul_left w (omega arith) in
        let found : w * cap ≤ w * q = mul-le-mul_left w (c.reaches (omega arith)) in
        record { exact = λ b. absurd (omega arith); reaches = λ b. omega arith }

-- a part of 0 changes nothing
pub serves_skip : (L x total part : ℕ) → Serves L x total → part ≡ 0 → Serves L (x + part) total
serves_skip L x total part s e = let z : x + part ≡ x = omega arith in rw z s

-- once the limit is reached the rest of the parts is not needed
pub serves_stop : (L x total all : ℕ) → Serves L x total → L ≤ total → x ≤ all → Serves L all total
serves_stop L x total all s reached more =
    record { exact = λ b. absurd (let e = s.exact (omega arith) in omega arith); reaches = λ b. reached }

-- a cap that makes the sum reach the limit: what is left up to the limit, divided by the weight, and 1 more
pub cap_enough : (L total w : ℕ) → 0 < w → L ≤ total + w * ((L - total) / w + 1)
cap_enough L total w l =
    let whole : (L - total) / w * w + (L - total) % w ≡ L - total = div-add-mod' (L - total) w in
    let small : (L - total) % w < w = mod-lt (L - total) l in
    let product : w * ((L - total) / w + 1) ≡ w * ((L - total) / w) + w = rw (mul-add w ((L - total) / w) 1, mul-one w) in
    omega (arith, mul_comm ((L - total) / w) w)

-- a loop that adds the parts in order and stops at the end or once the limit is reached has what serves for the whole sum
pub cut_serves : (L count k : ℕ) (part : ℕ → ℕ) → k ≤ count → (k ≡ count) ⊎ (L ≤ sum_below k part)
    → Serves L (sum_below count part) (sum_below k part)
cut_serves L count k part l (inl e) = rw e (whole_serves L (sum_below count part))
cut_serves L count k part l (inr h) = reaching_serves L (sum_below count part) (sum_below k part) (sum_grows k count part l) h

-- ── what the search finds ──

-- b is the least of f 0, .., f (n - 1) at the smallest number that has it, and below B
pub record Lowest (f : ℕ → ℕ) (n B : ℕ) (b : Best) : Type 0 where
  pub there : b.at < n
  pub attained : b.sum ≡ f b.at
  pub below : b.sum < B
  pub least : (k : ℕ) → k < n → b.sum ≤ f k
  pub smallest : (k : ℕ) → k < b.at → b.sum < f k

-- what an answer means: none, no value is below B; or the least is found
abbrev pub Bounded : (ℕ → ℕ) → ℕ → ℕ → Option Best → Type 0
Bounded f n B none = (k : ℕ) → k < n → B ≤ f k
Bounded f n B (some b) = Lowest f n B b

-- no value before was below the limit
limit_least : (f : ℕ → ℕ) (n B : ℕ) (o : Option Best) → Bounded f n B o → (k : ℕ) → k < n → limit B o ≤ f k
limit_least f n B none h k l = h k l
limit_least f n B (some b) h k l = h.least k l

-- the limit is at most the bound
limit_bound : (f : ℕ → ℕ) (n B : ℕ) (o : Option Best) → Bounded f n B o → limit B o ≤ B
limit_bound f n B none h = omega arith
limit_bound f n B (some b) h = let l = h.below in omega arith

-- one more value that reaches the limit
bounded_keep : (f : ℕ → ℕ) (n B : ℕ) (o : Option Best) → Bounded f n B o → limit B o ≤ f n → Bounded f (suc n) B o
bounded_keep f n B none h l = λ k b. ⊎_elim (λ (e : k ≡ n). rw e l) (h k) (below_suc b)
bounded_keep f n B (some b) h l =
    record {
      there = let a = h.there in omega arith;
      attained = h.attained;
      below = h.below;
      least = λ k c. ⊎_elim (λ (e : k ≡ n). rw e l) (h.least k) (below_suc c);
      smallest = h.smallest;
    }

-- one more value, by its test
bounded_step : (f : ℕ → ℕ) (n B : ℕ) (o : Option Best) → Bounded f n B o → (c : Bool) → ltb (f n) (limit B o) ≡ c
    → Bounded f (suc n) B (elim c as (λ _. Option Best) [ true ↦ some (best_at (f n) n) | false ↦ o ])
bounded_step f n B o h true e =
    let less : f n < limit B o = ltb-true _ _ e in
    let at_most : limit B o ≤ B = limit_bound f n B o h in
    record {
      there = omega arith;
      attained = refl;
      below = omega arith;
      least =
          λ k b. ⊎_elim (λ (s : k ≡ n). rw s (omega arith)) (λ (l : k < n). let g = limit_least f n B o h k l in omega arith) (below_suc b);
      smallest = λ k b. (let g = limit_least f n B o h k b in omega arith);
    }
bounded_step f n B o h false e = bounded_keep f n B o h (ltb-false _ _ e)

-- the search finds it
pub bounded_is : (f : ℕ → ℕ) (n B : ℕ) → Bounded f n B (below_bound f n B)
unfolding below_bound lowered
bounded_is f zero B = λ k l. absurd (omega arith)
bounded_is f (suc n) B = bounded_step f n B (below_bound f n B) (bounded_is f n B) _ refl

-- two least ones with the smallest number are the same
lowest_same : (f : ℕ → ℕ) (n B : ℕ) (b c : Best) → Lowest f n B b → Lowest f n B c → b ≡ c
lowest_same f n B b c h g = ap₂ best_at sums same
  where
    sums : b.sum ≡ c.sum
    sums =
        let bc = h.least c.at g.there in
        let cb = g.least b.at h.there in
        let ba = h.attained in
        let ca = g.attained in
        omega arith

    not_less : b.at < c.at → ⊥
    not_less l = let s = g.smallest b.at l in let a = h.attained in let e = sums in omega arith

    not_more : c.at < b.at → ⊥
    not_more l = let s = h.smallest c.at l in let a = g.attained in let e = sums in omega arith

    same : b.at ≡ c.at
    same = omega (arith, not_less, not_more)

-- an answer with that meaning is the search's answer, in whatever order it was found
pub bounded_only : (f : ℕ → ℕ) (n B : ℕ) (o q : Option Best) → Bounded f n B o → Bounded f n B q → o ≡ q
bounded_only f n B none none h g = refl
bounded_only f n B none (some c) h g = absurd (let l = h c.at g.there in let a = g.attained in let b = g.below in omega arith)
bounded_only f n B (some b) none h g = absurd (let l = g b.at h.there in let a = h.attained in let c = h.below in omega arith)
bounded_only f n B (some b) (some c) h g = ap some (lowest_same f n B b c h g)

-- the search's answer is the one with that meaning
pub bounded_answer : (f : ℕ → ℕ) (n B : ℕ) (o : Option Best) → Bounded f n B o → below_bound f n B ≡ o
bounded_answer f n B o h = bounded_only f n B (below_bound f n B) o (bounded_is f n B) h

-- ── early ends ──

-- once the best sum is 0 later numbers change nothing
pub zero_ends : (f : ℕ → ℕ) (n m B : ℕ) (b : Best) → below_bound f n B ≡ some b → b.sum ≡ 0 → n ≤ m → below_bound f m B ≡ some b
zero_ends f n m B b e z l =
    let h : Lowest f n B b = rw e at (bounded_is f n B) in
    bounded_answer f m B (some b)
    (record {
      there = let a = h.there in omega arith;
      attained = h.attained;
      below = h.below;
      least = λ k c. omega arith;
      smallest = h.smallest;
    })

-- the smallest number with value 0 is the answer, whatever the values after it are
pub zero_answer : (f : ℕ → ℕ) (n m B : ℕ) → 0 < B → m < n → f m ≡ 0 → ((k : ℕ) → k < m → 0 < f k) → below_bound f n B ≡ some (best_at 0 m)
zero_answer f n m B positive l z before =
    bounded_answer f n B (some (best_at 0 m))
    (record { there = l; attained = sym z; below = positive; least = λ k c. omega arith; smallest = before })

-- where no value is below the bound there is none
pub none_answer : (f : ℕ → ℕ) (n B : ℕ) → ((k : ℕ) → k < n → B ≤ f k) → below_bound f n B ≡ none
none_answer f n B h = bounded_answer f n B none h

-- below 0 there is none
pub zero_bound : (f : ℕ → ℕ) (n : ℕ) → below_bound f n 0 ≡ none
zero_bound f n = none_answer f n 0 (λ k l. omega arith)

-- ── the answer as two numbers ──

-- the limit so far and the number that has it: none has where the limit is still the bound
unfoldable pub answer_of : ℕ → ℕ → ℕ → Option Best
answer_of B low at = elim (ltb low B) [ true ↦ some (best_at low at) | false ↦ none ]

-- a limit below the bound is a sum that was found
pub answer_some : (B low at : ℕ) → low < B → answer_of B low at ≡ some (best_at low at)
unfolding answer_of
answer_some B low at l = rw (lt-ltb low B l, answer_of)

-- else none was
pub answer_none : (B low at : ℕ) → B ≤ low → answer_of B low at ≡ none
unfolding answer_of
answer_none B low at l = rw (le-ltb low B l, answer_of)

-- the limit of such an answer
pub answer_limit : (B low at : ℕ) → low ≤ B → limit B (answer_of B low at) ≡ low
answer_limit B low at l =
    ⊎_elim (λ (e : low ≡ B). ap (limit B) (answer_none B low at (omega arith)) ∙ sym e) (λ (h : low < B). ap (limit B) (answer_some B low at h))
    (eq-or-lt_of_le l)

-- before the first number
pub answer_begin : (f : ℕ → ℕ) (B at : ℕ) → below_bound f 0 B ≡ answer_of B B at
unfolding below_bound
answer_begin f B at = sym (answer_none B B at (omega arith))

module _ (f : ℕ → ℕ) (n B low at y : ℕ) (now : below_bound f n B ≡ answer_of B low at) (within : low ≤ B) (s : Serves low (f n) y) where
  -- what serves for the value serves by the limit of the answer
  serves_now : Serves (limit B (below_bound f n B)) (f n) y
  serves_now = rw (now, answer_limit B low at within) s

  -- the step of the loop: a value below the limit takes its place
  pub answer_lower : y < low → below_bound f (n + 1) B ≡ answer_of B y n
  answer_lower l =
      let e : limit B (below_bound f n B) ≡ low = ap (limit B) now ∙ answer_limit B low at within in
      step_serves f n B y serves_now ∙ lowered_less B (below_bound f n B) y n (omega arith) ∙ sym (answer_some B y n (omega arith))

  -- the step of the loop: a value that reaches it changes nothing
  pub answer_keep : low ≤ y → below_bound f (n + 1) B ≡ answer_of B low at
  answer_keep l =
      let e : limit B (below_bound f n B) ≡ low = ap (limit B) now ∙ answer_limit B low at within in
      step_serves f n B y serves_now ∙ lowered_kept B (below_bound f n B) y n (omega arith) ∙ now

-- a limit of 0 ends the search
pub answer_zero : (f : ℕ → ℕ) (n m B at : ℕ) → 0 < B → n ≤ m → below_bound f n B ≡ answer_of B 0 at → below_bound f m B ≡ answer_of B 0 at
answer_zero f n m B at positive l now =
    zero_ends f n m B (best_at 0 at) (now ∙ answer_some B 0 at positive) refl l ∙ sym (answer_some B 0 at positive)
