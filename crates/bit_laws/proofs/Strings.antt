-- Bits of a list of words: a place by its word, a part of the list, and what is past its end. Assumes nothing.
use Rattle.list_laws.proofs.Kit.{◌∙◌, ◌≡◌, ap, ap₂, sym, false, List, ◌%◌, ◌*◌, ◌+◌, ◌/◌, ◌<◌, ◌≤◌, ℕ}
use Rattle.list_laws.proofs.Kit.{arith, get_or-eq_default, drop, get_or, length, take, get_or-drop, get_or-take}
use Rattle.bit_laws.specs.Bit.{bit_at, bit_in}
use Rattle.bit_laws.proofs.Laws.{bit_of_zero}

-- a place by its word and its place in that word
pub bit_in_lem : (ws : List ℕ) (j i p : ℕ) → i < 64 → p ≡ j * 64 + i → bit_in ws p ≡ bit_at (get_or ws j 0) i
unfolding bit_in
bit_in_lem ws j i p l e =
    let q : p / 64 ≡ j = omega arith in
    let r : p % 64 ≡ i = omega arith in
    ap₂ (λ (a b : ℕ). bit_at (get_or ws a 0) b) q r

-- past the end all bits are clear
pub bit_past : (ws : List ℕ) (p : ℕ) → length ws * 64 ≤ p → bit_in ws p ≡ false
unfolding bit_in
bit_past ws p l = ap (λ (n : ℕ). bit_at n (p % 64)) (get_or-eq_default ws 0 (omega arith)) ∙ bit_of_zero (p % 64)

-- words alike have bits alike
pub bit_alike : (xs ys : List ℕ) (p : ℕ) → get_or xs (p / 64) 0 ≡ get_or ys (p / 64) 0 → bit_in xs p ≡ bit_in ys p
unfolding bit_in
bit_alike xs ys p e = ap (λ (n : ℕ). bit_at n (p % 64)) e

-- a word of 0 has no bit
pub bit_none : (ws : List ℕ) (p : ℕ) → get_or ws (p / 64) 0 ≡ 0 → bit_in ws p ≡ false
unfolding bit_in
bit_none ws p e = ap (λ (n : ℕ). bit_at n (p % 64)) e ∙ bit_of_zero (p % 64)

-- a bit of n words from word k on
pub bit_part : (ws : List ℕ) (k n p : ℕ) → p < n * 64 → bit_in (take n (drop k ws)) p ≡ bit_in ws (k * 64 + p)
unfolding bit_in
bit_part ws k n p l =
    let e : (k * 64 + p) / 64 ≡ k + p / 64 = omega arith in
    let f : (k * 64 + p) % 64 ≡ p % 64 = omega arith in
    ap (λ (x : ℕ). bit_at x (p % 64)) (get_or-take n (drop k ws) (p / 64) 0 (omega arith) ∙ get_or-drop k ws (p / 64) 0)
    ∙ sym (ap₂ (λ (a b : ℕ). bit_at (get_or ws a 0) b) e f)
