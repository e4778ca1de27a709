-- Layers of set bits peeled off, one distance after the other. Assumes nothing.
use Rattle.list_laws.proofs.Kit.{◌∙◌, ◌≡◌, ap, ap₂, refl, subst, sym, Bool, ◌&&◌, false, not, true, ◌⊎◌, inl, inr, List, ◌+◌, ◌-◌, ◌<◌, ◌^◌, ◌≤◌, ℕ}
use Rattle.list_laws.proofs.Kit.{arith, by_contra, lt-ltb, ltb-true, get_or, length}
use Rattle.list_laws.proofs.Numbers.{below_or, below_more}
use Rattle.list_laws.proofs.Tests.{and_left, and_right, clash, decided, first_fails}
use lib.Bits.{bit_and, and_le_l}
use lib.Count.{count_trailing_zeros}
use Rattle.bit_laws.specs.Bit.{bit_at, bit_in, length_limit}
use Rattle.bit_laws.proofs.Laws.{bit_and_lem, bit_not, bit_above, bit_of_zero}
use Rattle.bit_laws.proofs.Lowest.{trailing_set}
use Rattle.search_peel.specs.Peel.{pick_n, BitsAt, LowBits, around, Inner, BitsIn, Filled, Distance, PlaceDone, Reaches, Peeled}

-- `v & !w`
and_not : (v n x : ℕ) → v < 2 ^ 64 → n < 2 ^ 64 → bit_at (bit_and v (2 ^ 64 - 1 - n)) x ≡ (bit_at v x && not (bit_at n x))
and_not v n x hv hn = bit_and_lem v (2 ^ 64 - 1 - n) x ∙ go (below_or x 64)
  where
    go : (x < 64) ⊎ (64 ≤ x) → (bit_at v x && bit_at (2 ^ 64 - 1 - n) x) ≡ (bit_at v x && not (bit_at n x))
    go (inl l) = ap (λ (b : Bool). bit_at v x && b) (bit_not 64 n x hn l)
    go (inr l) = simp (bit_above 64 v x hv l)

-- v has the places that are set on all sides at each distance below r; the others are done
pub record Peeling (ws : List ℕ) (w p count at : ℕ) (xs ys : List ℕ) (v r : ℕ) : Type 0 where
  pub same : length ys ≡ length xs
  pub small : v < 18446744073709551616
  pub from : 1 ≤ r
  pub few : (x : ℕ) → bit_at v x ≡ true → x < count
  pub set : (x : ℕ) → bit_at v x ≡ true → bit_in ws (p + x) ≡ true
  pub kept : (x t : ℕ) → bit_at v x ≡ true → 1 ≤ t → t < r → around ws w (p + x) t ≡ true
  pub done : (x : ℕ) → x < count → bit_at v x ≡ false → PlaceDone ws w (p + x) (get_or xs (at + x) 0) (get_or ys (at + x) 0)
  pub before : (k : ℕ) → k < at → get_or ys k 0 ≡ get_or xs k 0
  pub after : (k : ℕ) → at + count ≤ k → get_or ys k 0 ≡ get_or xs k 0

module _ (ws : List ℕ) (w p count at : ℕ) (xs : List ℕ) (h : Reaches ws w p count) where
  -- all places are open at first
  pub peel_start : (a b : ℕ) → BitsAt ws p a → LowBits count b → Peeling ws w p count at xs xs (bit_and a b) 1
  peel_start a b ha hb =
      record {
        same = refl;
        small = omega (arith, ha.small, and_le_l a b);
        from = omega arith;
        few = few_at;
        set = λ x e.
            let k = few_at x e in
            sym (ha.each x (omega (arith, h.few.1))) ∙ and_left (bit_at a x) (bit_at b x) (sym (bit_and_lem a b x) ∙ e);
        kept = λ x t e l m. absurd (omega arith);
        done = λ x l e.
            let c : bit_in ws (p + x) ≡ false = clear_at_lem x l e in
            record { marked = λ f. absurd (clash f c); clear = λ f. refl };
        before = λ k l. refl;
        after = λ k l. refl;
      }
    where
      few_at : (x : ℕ) → bit_at (bit_and a b) x ≡ true → x < count
      few_at x e = ltb-true x count (sym (hb.each x) ∙ and_right (bit_at a x) (bit_at b x) (sym (bit_and_lem a b x) ∙ e))

      clear_at_lem : (x : ℕ) → x < count → bit_at (bit_and a b) x ≡ false → bit_in ws (p + x) ≡ false
      clear_at_lem x l e =
          let k : x < 64 = omega (arith, h.few.1) in
          sym (ha.each x k) ∙ and_one (bit_at a x) ∙ ap (λ (c : Bool). bit_at a x && c) (sym (hb.each x ∙ lt-ltb x count l)) ∙ sym (bit_and_lem a b x) ∙ e
        where
          and_one : (c : Bool) → c ≡ (c && true)
          and_one true = refl
          and_one false = refl

  -- no place is open past the reach
  pub peel_in : (ys : List ℕ) (v r : ℕ) → (v ≡ 0 → ⊥) → Peeling ws w p count at xs ys v r → r ≤ h.reach
  peel_in ys v r n g =
      let x = count_trailing_zeros 64 v in
      let e : bit_at v x ≡ true = trailing_set 64 v (omega arith) g.small in
      let q = h.ends x (g.few x e) in
      let l : r ≤ q.at = by_contra r q.at (λ m. clash (g.kept x q.at e q.some m) q.clear) in
      omega (arith, q.near)

  module _ (ys : List ℕ) (v n r : ℕ) (g : Peeling ws w p count at xs ys v r) (o : Inner ws w p r v n) where
    -- the bits that leave
    leaves : (x : ℕ) → bit_at (bit_and v (2 ^ 64 - 1 - n)) x ≡ (bit_at v x && not (bit_at n x))
    leaves x = and_not v n x g.small (omega (arith, g.small, o.below))

    open_at : (x : ℕ) → bit_at n x ≡ true → (bit_at v x ≡ true) × (around ws w (p + x) r ≡ true)
    open_at x e = go (below_or x 64)
      where
        go : (x < 64) ⊎ (64 ≤ x) → (bit_at v x ≡ true) × (around ws w (p + x) r ≡ true)
        go (inl l) =
            let b : (bit_at v x && around ws w (p + x) r) ≡ true = sym (o.each x l) ∙ e in
            (and_left (bit_at v x) (around ws w (p + x) r) b, and_right (bit_at v x) (around ws w (p + x) r) b)
        go (inr l) = absurd (clash e (bit_above 64 n x (omega (arith, g.small, o.below)) l))

    -- they stand in the line
    pub leaves_in : (bound : ℕ) → at + count ≤ bound → bound < length_limit → BitsIn (bit_and v (2 ^ 64 - 1 - n)) at bound
    leaves_in bound l s =
        record { each = λ x e. let k = g.few x (and_left (bit_at v x) (not (bit_at n x)) (sym (leaves x) ∙ e)) in omega arith; small = s }

    -- one distance further
    pub peel_step : (zs : List ℕ) → Filled at (bit_and v (2 ^ 64 - 1 - n)) r ys zs → Peeling ws w p count at xs zs n (r + 1)
    peel_step zs f =
        record {
          same = f.same ∙ g.same;
          small = omega (arith, g.small, o.below);
          from = omega arith;
          few = λ x e. g.few x (open_at x e).0;
          set = λ x e. g.set x (open_at x e).0;
          kept = λ x t e a b. kept_on x t e a (below_more b);
          done = λ x l e. done_at x l e (decided (bit_at v x));
          before = λ k l. f.before k l ∙ g.before k l;
          after = λ k l.
              let i : k ≡ at + (k - at) = omega arith in
              ap (λ (j : ℕ). get_or zs j 0) i ∙ f.each (k - at)
              ∙ ap (λ (b : Bool). pick_n b r (get_or ys (at + (k - at)) 0)) (none_past (k - at) (omega arith) (decided (bit_at v (k - at))))
              ∙ ap (λ (j : ℕ). get_or ys j 0) (sym i) ∙ g.after k l;
        }
      where
        kept_on : (x t : ℕ) → bit_at n x ≡ true → 1 ≤ t → (t ≡ r) ⊎ (t < r) → around ws w (p + x) t ≡ true
        kept_on x t e a (inl q) = ap (around ws w (p + x)) q ∙ (open_at x e).1
        kept_on x t e a (inr l) = g.kept x t (open_at x e).0 a l

        none_past : (x : ℕ) → count ≤ x → (bit_at v x ≡ true) ⊎ (bit_at v x ≡ false) → bit_at (bit_and v (2 ^ 64 - 1 - n)) x ≡ false
        none_past x l (inl e) = let k = g.few x e in absurd (omega arith)
        none_past x l (inr e) = leaves x ∙ first_fails (not (bit_at n x)) e

        done_at : (x : ℕ) → x < count → bit_at n x ≡ false → (bit_at v x ≡ true) ⊎ (bit_at v x ≡ false)
            → PlaceDone ws w (p + x) (get_or xs (at + x) 0) (get_or zs (at + x) 0)
        done_at x l e (inl b) =
            let i : x < 64 = omega (arith, h.few.1) in
            let off : around ws w (p + x) r ≡ false = ap (λ (c : Bool). c && around ws w (p + x) r) (sym b) ∙ sym (o.each x i) ∙ e in
            let out : bit_at (bit_and v (2 ^ 64 - 1 - n)) x ≡ true = leaves x ∙ ap₂ (λ (c k : Bool). c && not k) b e in
            let got : get_or zs (at + x) 0 ≡ r = f.each x ∙ ap (λ (c : Bool). pick_n c r (get_or ys (at + x) 0)) out in
            record {
              marked = λ m. subst (Distance ws w (p + x)) (sym got) (record { some = g.from; before = λ t a m. g.kept x t b a m; here = off });
              clear = λ m. absurd (clash (g.set x b) m);
            }
        done_at x l e (inr b) =
            let out : bit_at (bit_and v (2 ^ 64 - 1 - n)) x ≡ false = leaves x ∙ first_fails (not (bit_at n x)) b in
            let got : get_or zs (at + x) 0 ≡ get_or ys (at + x) 0 = f.each x ∙ ap (λ (c : Bool). pick_n c r (get_or ys (at + x) 0)) out in
            subst (PlaceDone ws w (p + x) (get_or xs (at + x) 0)) (sym got) (g.done x l b)

  -- no place is open
  pub peel_end : (ys : List ℕ) (v r : ℕ) → v ≡ 0 → Peeling ws w p count at xs ys v r → Peeled ws w p count at xs ys
  peel_end ys v r e g =
      record {
        same = g.same;
        each = λ x l. g.done x l (ap (λ (n : ℕ). bit_at n x) e ∙ bit_of_zero x);
        before = g.before;
        after = g.after;
      }
