-- Counts up and down a column, and what they say of its bits. Assumes nothing.
use Rattle.list_laws.proofs.Kit.{◌∙◌, ◌≡◌, ap, ap₂, refl, subst, sym, Bool, ◌&&◌, false, true, ◌⊎◌, inl, inr, List, ◌*◌, ◌+◌, ◌-◌, ◌<◌, ◌≤◌, min, suc, zero, ℕ}
use Rattle.list_laws.proofs.Kit.{add-one, arith, by_contra, get_or, length}
use Rattle.list_laws.proofs.Numbers.{below_or}
use Rattle.list_laws.proofs.Tests.{and_both, clash, first_fails, second_fails}
use Rattle.bit_laws.specs.Bit.{bit_in}
use Rattle.search_peel.specs.Peel.{around, Distance, PlaceDone}
use Rattle.search_columns.specs.Column.{byte_most, FirstClear, FirstWithin, beside, under, SidesDone, counted, fallen, Fallen, Ended, ColumnEnds}
use Rattle.search_columns.specs.Column.{ColumnDone}

-- ── counts ──

-- at a place above 0
pub count_more : (v n : ℕ) → 0 < v → n + 1 ≡ counted v n
count_more zero n l = absurd (omega arith)
count_more (suc v) n l = add-one n

-- a count is at most one more
pub count_most : (v n : ℕ) → counted v n ≤ n + 1
count_most zero n = omega arith
count_most (suc v) n = omega arith

-- the count from a place on, one place before
fallen_step : (xs : List ℕ) (k n : ℕ) → k < n → fallen xs k (n - k) ≡ counted (get_or xs k 0) (fallen xs (k + 1) (n - (k + 1)))
fallen_step xs k n l =
    let e : n - k ≡ suc (n - (k + 1)) = omega arith in
    let f : suc k ≡ k + 1 = omega arith in
    ap (fallen xs k) e ∙ ap (λ (z : ℕ). counted (get_or xs k 0) (fallen xs z (n - (k + 1)))) f

-- past the last place it is 0
pub fallen_none : (xs : List ℕ) (n : ℕ) → 0 ≡ fallen xs n (n - n)
fallen_none xs n = let e : n - n ≡ 0 = omega arith in sym (ap (fallen xs n) e)

-- one step of that count
pub fallen_value : (xs : List ℕ) (k n d x v : ℕ) → 0 < k → k ≤ n → d ≡ fallen xs k (n - k) → x ≡ get_or xs (k - 1) 0 → v ≡ counted x d
    → v ≡ fallen xs (k - 1) (n - (k - 1))
fallen_value xs k n d x v l m e f g =
    let z : k ≡ k - 1 + 1 = omega arith in
    g ∙ ap₂ counted f (e ∙ ap (λ (i : ℕ). fallen xs i (n - i)) z) ∙ sym (fallen_step xs (k - 1) n (omega arith))

-- it is at most the number of places
pub fallen_most : (xs : List ℕ) (k left : ℕ) → fallen xs k left ≤ left
fallen_most xs k zero = omega arith
fallen_most xs k (suc left) =
    let l = fallen_most xs (suc k) left in let m = count_most (get_or xs k 0) (fallen xs (suc k) left) in omega arith

-- ── the least number that fails a test ──

-- one that fails at once
first_zero : (f : ℕ → Bool) → f 0 ≡ false → FirstClear f 0
first_zero f e = record { before = λ t l. absurd (omega arith); here = e }

-- one step before
first_suc : (f g : ℕ → Bool) (n : ℕ) → f 0 ≡ true → ((t : ℕ) → f (suc t) ≡ g t) → FirstClear g n → FirstClear f (suc n)
first_suc f g n e h c = record { before = go; here = h n ∙ c.here }
  where
    go : (t : ℕ) → t < suc n → f t ≡ true
    go zero l = e
    go (suc t) l = h t ∙ c.before t (omega arith)

-- 0 exactly where the test fails at once
first_tells : (f : ℕ → Bool) (n : ℕ) (b : Bool) → f 0 ≡ b → FirstClear f n → (n ≡ 0 → b ≡ false) × (0 < n → b ≡ true)
first_tells f n b h c = (λ e. sym h ∙ ap f (sym e) ∙ c.here, λ l. sym h ∙ c.before 0 l)

-- tests alike
first_same : (f g : ℕ → Bool) (n : ℕ) → ((t : ℕ) → g t ≡ f t) → FirstClear f n → FirstClear g n
first_same f g n h c = record { before = λ t l. h t ∙ c.before t l; here = h n ∙ c.here }

-- one place more: the nearest clear bit is the place itself, or one farther than from the place after it
count_first : (f g : ℕ → Bool) (b : Bool) (v n : ℕ) → f 0 ≡ b → ((t : ℕ) → f (suc t) ≡ g t) → (v ≡ 0 → b ≡ false) × (0 < v → b ≡ true)
    → FirstClear g n → FirstClear f (counted v n)
count_first f g b zero n here further tells c = first_zero f (here ∙ tells.0 refl)
count_first f g b (suc v) n here further tells c = first_suc f g n (here ∙ tells.1 (omega arith)) further c

-- a bounded one tells the first test too
within_tells : (f : ℕ → Bool) (bound v : ℕ) (b : Bool) → f 0 ≡ b → 0 < bound → FirstWithin f bound v → (v ≡ 0 → b ≡ false) × (0 < v → b ≡ true)
within_tells f bound v b h some c = (λ e. sym h ∙ ap f (sym e) ∙ c.here (omega arith), λ l. sym h ∙ c.before 0 l)

-- of two tests together, the one asked up to the count of the other or to a limit
within_count : (f g : ℕ → Bool) (n limit bound v : ℕ) → 0 < limit → bound ≡ min (n + 1) limit → FirstWithin f bound v → FirstClear g (counted v n)
    → FirstWithin (λ t. f t && g t) limit v
within_count f g n limit bound zero some e a b =
    record { few = omega arith; before = λ t l. absurd (omega arith); here = λ l. first_fails (g 0) (a.here (omega arith)) }
within_count f g n limit bound (suc v) some e a b =
    record {
      few = omega (arith, a.few);
      before = λ t l. and_both (a.before t l) (b.before t (omega (arith, a.few)));
      here = λ l. go l (below_or v n);
    }
  where
    go : suc v < limit → (v < n) ⊎ (n ≤ v) → (f (suc v) && g (suc v)) ≡ false
    go l (inl m) = first_fails (g (suc v)) (a.here (omega arith))
    go l (inr m) = let k : v ≡ n = omega (arith, a.few) in second_fails (f (suc v)) (ap (λ (i : ℕ). g (suc i)) k ∙ b.here)

-- of two tests together, the one asked up to a bound
within_both : (f g : ℕ → Bool) (bound m n : ℕ) → FirstWithin f bound m → FirstClear g n → FirstWithin (λ t. f t && g t) bound (min m n)
within_both f g bound m n a b =
    record {
      few = omega (arith, a.few);
      before = λ t l. and_both (a.before t (omega arith)) (b.before t (omega arith));
      here = λ l. go l (below_or m n);
    }
  where
    go : min m n < bound → (m < n) ⊎ (n ≤ m) → (f (min m n) && g (min m n)) ≡ false
    go l (inl k) = let e : min m n ≡ m = omega arith in first_fails (g (min m n)) (ap f e ∙ a.here (omega arith))
    go l (inr k) = let e : min m n ≡ n = omega arith in second_fails (f (min m n)) (ap g e ∙ b.here)

-- where some number up to the bound fails the test, the bound cuts nothing off
within_exact : (f : ℕ → Bool) (bound n t : ℕ) → FirstWithin f bound n → t ≤ bound → f t ≡ false → FirstClear f n
within_exact f bound n t c l e = record { before = c.before; here = go (below_or n bound) }
  where
    go : (n < bound) ⊎ (bound ≤ n) → f n ≡ false
    go (inl m) = c.here m
    go (inr m) =
        let k : n ≤ t = by_contra n t (λ b. clash (c.before t b) e) in
        let q : n ≡ t = omega (arith, c.few) in
        ap f q ∙ e

-- ── at the place itself ──

-- a test asked twice
and_same : (b : Bool) → (b && b) ≡ b
and_same true = refl
and_same false = refl

-- nothing but the place's own bit is looked at
beside_here : (ws : List ℕ) (p : ℕ) → beside ws p 0 ≡ bit_in ws p
unfolding beside
beside_here ws p =
    let a : p + 0 ≡ p = omega arith in
    let b : p - 0 ≡ p = omega arith in
    ap₂ (λ (x y : ℕ). bit_in ws x && bit_in ws y) a b ∙ and_same (bit_in ws p)

under_here : (ws : List ℕ) (w p : ℕ) → under ws w p 0 ≡ bit_in ws p
unfolding under
under_here ws w p = let a : p - 0 * w ≡ p = omega arith in ap₂ ◌&&◌ (beside_here ws p) (ap (bit_in ws) a) ∙ and_same (bit_in ws p)

-- the rows above are asked after the rows below
around_under : (ws : List ℕ) (w p t : ℕ) → around ws w p t ≡ (under ws w p t && bit_in ws (p + t * w))
unfolding around under beside
around_under ws w p t = and_swap (bit_in ws (p + t) && bit_in ws (p - t)) (bit_in ws (p + t * w)) (bit_in ws (p - t * w))
  where
    and_swap : (a b c : Bool) → ((a && b) && c) ≡ ((a && c) && b)
    and_swap true true c = and_one c
      where
        and_one : (c : Bool) → c ≡ (c && true)
        and_one true = refl
        and_one false = refl
    and_swap true false true = refl
    and_swap true false false = refl
    and_swap false b c = refl

-- a place that ends along its row ends
pub beside_clear : (ws : List ℕ) (w p t : ℕ) → beside ws p t ≡ false → around ws w p t ≡ false
unfolding around beside
beside_clear ws w p t e = first_fails (bit_in ws (p - t * w)) (first_fails (bit_in ws (p + t * w)) e)

around_here : (ws : List ℕ) (w p : ℕ) → around ws w p 0 ≡ bit_in ws p
around_here ws w p =
    let a : p + 0 * w ≡ p = omega arith in
    around_under ws w p 0 ∙ ap₂ ◌&&◌ (under_here ws w p) (ap (bit_in ws) a) ∙ and_same (bit_in ws p)

-- ── bits of the column ──

module _ (ws : List ℕ) (w p : ℕ) (xs : List ℕ) where
  -- a place of the line holds 0 exactly where its bit is clear
  abbrev pub Tells : Type 0
  Tells = (y : ℕ) → y < length xs → (get_or xs y 0 ≡ 0 → bit_in ws (p + y * w) ≡ false) × (0 < get_or xs y 0 → bit_in ws (p + y * w) ≡ true)

  -- the count from a place on tells the nearest clear bit above
  pub fallen_clear : Tells → bit_in ws (p + length xs * w) ≡ false → (k left : ℕ) → k + left ≡ length xs
      → FirstClear (λ t. bit_in ws (p + k * w + t * w)) (fallen xs k left)
  fallen_clear tells top k zero e =
      let z : k ≡ length xs = omega arith in
      let q : p + k * w ≡ p + length xs * w = ap (λ (i : ℕ). p + i * w) z in
      let o : p + k * w + 0 * w ≡ p + length xs * w = omega arith in
      first_zero (λ t. bit_in ws (p + k * w + t * w)) (ap (bit_in ws) o ∙ top)
  fallen_clear tells top k (suc left) e =
      let o : p + k * w + 0 * w ≡ p + k * w = omega arith in
      count_first (λ t. bit_in ws (p + k * w + t * w)) (λ t. bit_in ws (p + suc k * w + t * w)) (bit_in ws (p + k * w)) (get_or xs k 0) (fallen xs (suc k) left)
      (ap (bit_in ws) o) (λ t. ap (bit_in ws) (let z : p + k * w + suc t * w ≡ p + suc k * w + t * w = omega arith in z)) (tells k (omega arith))
      (fallen_clear tells top (suc k) left (omega arith))

-- ── down the column, place by place ──

-- n places in a row are set below a place, from the one w below it on
abbrev pub Under : List ℕ → ℕ → ℕ → ℕ → Type 0
Under ws w q n = FirstClear (λ t. bit_in ws (q - suc t * w)) n

-- below the first place of the column there is none
pub under_start : (ws : List ℕ) (w p : ℕ) → bit_in ws (p - w) ≡ false → Under ws w p 0
under_start ws w p floor =
    let o : p - suc 0 * w ≡ p - w = omega arith in
    first_zero (λ t. bit_in ws (p - suc t * w)) (ap (bit_in ws) o ∙ floor)

module _ (ws : List ℕ) (w q n bound v : ℕ) (e : bound ≡ min (n + 1) byte_most) (h : Under ws w q n) (g : FirstWithin (beside ws q) bound v) where
  -- at the place itself
  under_count : FirstClear (λ t. bit_in ws (q - t * w)) (counted v n)
  under_count =
      let o : q - 0 * w ≡ q = omega arith in
      count_first (λ t. bit_in ws (q - t * w)) (λ t. bit_in ws (q - suc t * w)) (bit_in ws q) v n (ap (bit_in ws) o) (λ t. refl)
      (within_tells (beside ws q) bound v (bit_in ws q) (beside_here ws q) (omega arith) g) h

  -- so below the next place
  pub under_next : (m : ℕ) → m ≡ counted v n → Under ws w (q + w) m
  under_next m k =
      subst (Under ws w (q + w)) (sym k)
      (first_same (λ t. bit_in ws (q - t * w)) (λ t. bit_in ws (q + w - suc t * w)) (counted v n)
      (λ t. ap (bit_in ws) (let z : q + w - suc t * w ≡ q - t * w = omega arith in z)) under_count)

  -- and what the place holds is the least of three sides, where a byte holds it
  pub under_place : FirstWithin (under ws w q) byte_most v
  unfolding under
  under_place = within_count (beside ws q) (λ t. bit_in ws (q - t * w)) n byte_most bound v (omega arith) e g under_count

-- ── the line ──

module _ (ws : List ℕ) (w p : ℕ) (line sides done : List ℕ) (g : SidesDone ws w p line sides) (f : Fallen sides done) (ends : Ended ws w p (length line))
    (near : ColumnEnds ws w p (length line)) where
  -- a place tells its bit
  sides_tell : Tells ws w p sides
  sides_tell y l =
      within_tells (under ws w (p + y * w)) byte_most (get_or sides y 0) (bit_in ws (p + y * w)) (under_here ws w (p + y * w)) (omega arith)
      (g.each y (omega (arith, g.same)))

  -- with the clear bit above
  pub column_done : ColumnDone ws w p line done
  column_done =
      let n = g.same in
      let top : bit_in ws (p + length sides * w) ≡ false = ap (λ (i : ℕ). bit_in ws (p + i * w)) n ∙ ends.top in
      record {
        same = f.same ∙ n;
        each = λ y l.
            let q = near.each y l in
            subst (FirstClear (around ws w (p + y * w))) (sym (f.at y (omega arith)))
            (first_same (λ t. under ws w (p + y * w) t && bit_in ws (p + y * w + t * w)) (around ws w (p + y * w)) _ (around_under ws w (p + y * w))
            (within_exact (λ t. under ws w (p + y * w) t && bit_in ws (p + y * w + t * w)) byte_most _ q.at
            (within_both (under ws w (p + y * w)) (λ t. bit_in ws (p + y * w + t * w)) byte_most (get_or sides y 0) (fallen sides y (length sides - y))
            (g.each y l) (fallen_clear ws w p sides sides_tell top y (length sides - y) (omega arith)))
            q.near (sym (around_under ws w (p + y * w) q.at) ∙ q.clear)));
      }

-- a place that holds the least such distance is done, as a place of a row is
pub first_done : (ws : List ℕ) (w p n : ℕ) → FirstClear (around ws w p) n → PlaceDone ws w p 0 n
first_done ws w p n c = record { marked = marked; clear = λ b. none (below_or 0 n) b }
  where
    tells : (n ≡ 0 → bit_in ws p ≡ false) × (0 < n → bit_in ws p ≡ true)
    tells = first_tells (around ws w p) n (bit_in ws p) (around_here ws w p) c

    some : (0 < n) ⊎ (n ≤ 0) → bit_in ws p ≡ true → 1 ≤ n
    some (inl l) b = l
    some (inr l) b = absurd (clash b (tells.0 (omega arith)))

    marked : bit_in ws p ≡ true → Distance ws w p n
    marked b = record { some = some (below_or 0 n) b; before = λ t o l. c.before t l; here = c.here }

    none : (0 < n) ⊎ (n ≤ 0) → bit_in ws p ≡ false → n ≡ 0
    none (inl l) b = absurd (clash (tells.1 l) b)
    none (inr l) b = omega arith
