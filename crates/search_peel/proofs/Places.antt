-- A line is filled at the bits of a word, lowest first. Assumes nothing.
use Rattle.list_laws.proofs.Kit.{◌∙◌, ◌≡◌, ap, ap₂, refl, sym, Bool, ◌&&◌, false, not, true, List, ◌+◌, ◌-◌, ◌<◌, ◌^◌, ℕ, arith, eq-eqb, ne_eqb}
use Rattle.list_laws.proofs.Kit.{get_or, length, set, get_or-set_other, get_or-set_same, ℕ_discrete}
use lib.Bits.{bit_and}
use lib.Count.{count_trailing_zeros}
use Rattle.bit_laws.specs.Bit.{bit_at}
use Rattle.bit_laws.proofs.Laws.{bit_of_zero}
use Rattle.bit_laws.proofs.Lowest.{bit_cleared, trailing_set}
use Rattle.search_peel.specs.Peel.{pick_n, Filled}

-- what place x comes to, with the bits of m still to be filled
abbrev pub Owes : ℕ → ℕ → ℕ → List ℕ → ℕ → ℕ
Owes at m v ys x = pick_n (bit_at m x) v (get_or ys (at + x) 0)

-- a test that is not denied
and-true : (b : Bool) → (b && not false) ≡ b
and-true true = refl
and-true false = refl

-- and one that is
and_false : (b : Bool) → (b && not true) ≡ false
and_false true = refl
and_false false = refl

-- one more bit
pub fill_step : (at m v : ℕ) (ys : List ℕ) → (m ≡ 0 → ⊥) → m < 2 ^ 64 → at + count_trailing_zeros 64 m < length ys
    → (x : ℕ) → Owes at (bit_and m (m - 1)) v (set ys (at + count_trailing_zeros 64 m) v) x ≡ Owes at m v ys x
fill_step at m v ys n h l x = go (ℕ_discrete x (count_trailing_zeros 64 m))
  where
    p : 0 < m
    p = omega arith

    go : Dec (x ≡ count_trailing_zeros 64 m) → Owes at (bit_and m (m - 1)) v (set ys (at + count_trailing_zeros 64 m) v) x ≡ Owes at m v ys x
    go (yes e) =
        let off : bit_at (bit_and m (m - 1)) x ≡ false =
        bit_cleared 64 m x p h ∙ ap (λ (b : Bool). bit_at m x && not b) (eq-eqb x (count_trailing_zeros 64 m) e) ∙ and_false (bit_at m x) in
        let on : bit_at m x ≡ true = ap (bit_at m) e ∙ trailing_set 64 m p h in
        let g : get_or (set ys (at + count_trailing_zeros 64 m) v) (at + x) 0 ≡ v =
        ap (λ (n : ℕ). get_or (set ys (at + count_trailing_zeros 64 m) v) (at + n) 0) e ∙ get_or-set_same ys (at + count_trailing_zeros 64 m) v 0 l in
        simp (off, on) g
    go (no f) =
        ap₂ (λ (b : Bool) (n : ℕ). pick_n b v n)
        (bit_cleared 64 m x p h ∙ ap (λ (b : Bool). bit_at m x && not b) (ne_eqb x (count_trailing_zeros 64 m) f) ∙ and-true (bit_at m x))
        (get_or-set_other ys (at + count_trailing_zeros 64 m) (at + x) v 0 (λ e. f (omega arith)))

-- no bit is left
pub fill_end : (at m v : ℕ) (xs ys : List ℕ) → m ≡ 0 → length ys ≡ length xs → (m₀ : ℕ) → ((x : ℕ) → Owes at m v ys x ≡ Owes at m₀ v xs x)
    → ((k : ℕ) → k < at → get_or ys k 0 ≡ get_or xs k 0) → Filled at m₀ v xs ys
fill_end at m v xs ys e l m₀ f b =
    record { same = l; each = λ x. sym (ap (λ (b : Bool). pick_n b v (get_or ys (at + x) 0)) (ap (λ (n : ℕ). bit_at n x) e ∙ bit_of_zero x)) ∙ f x; before = b }
