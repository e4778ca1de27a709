-- Whole strings moved up into another, and strips. Assumes nothing.
use Rattle.list_laws.proofs.Kit.{◌∙◌, ◌≡◌, ap, ap₂, refl, sym, Bool, ◌&&◌, ◌||◌, false, true, ◌⊎◌, inl, inr, List, ◌*◌, ◌+◌, ◌-◌, ◌/◌, ◌<◌, ◌≤◌, ℕ, arith, leb}
use Rattle.list_laws.proofs.Kit.{le-leb, lt-leb, length}
use Rattle.list_laws.proofs.Numbers.{below_or}
use Rattle.model.specs.Bounded.{any_below}
use Rattle.bit_laws.specs.Bit.{bit_in}
use Rattle.bit_laws.proofs.Laws.{or_assoc}
use Rattle.bit_laws.proofs.Strings.{bit_alike}
use Rattle.bit_laws.proofs.Wider.{Down, any_wider}
use Rattle.search_words.specs.Words.{or_bit, OrRow, OrFlat, Spare, Widened, StripMarked}

-- nothing is added, whatever it is asked with
or_nothing : (b c : Bool) → (b || (c && false)) ≡ b
or_nothing true c = refl
or_nothing false true = refl
or_nothing false false = refl

-- the row is all that a string takes over
pub flat_from_row : (xs fs : List ℕ) (s : ℕ) (ys : List ℕ) → Spare fs → OrRow xs 0 fs 0 (s / 64 + length fs) s ys → OrFlat xs fs s ys
unfolding or_bit
flat_from_row xs fs s ys sp w = record { same = w.same; each = λ p. go p (below_or p ((s / 64 + length fs) * 64)) }
  where
    go : (p : ℕ) → (p < (s / 64 + length fs) * 64) ⊎ ((s / 64 + length fs) * 64 ≤ p) → bit_in ys p ≡ (bit_in xs p || (leb s p && bit_in fs (p - s)))
    go p (inl l) =
        let e : p ≡ 0 * 64 + p = omega arith in
        let f : 0 * 64 + (p - s) ≡ p - s = omega arith in
        ap (bit_in ys) e ∙ w.row p l ∙ ap₂ (λ (a b : ℕ). bit_in xs a || (leb s p && bit_in fs b)) (sym e) f
    go p (inr l) =
        bit_alike ys xs p (w.after (p / 64) (omega arith)) ∙ sym (or_nothing (bit_in xs p) (leb s p))
        ∙ ap (λ (b : Bool). bit_in xs p || (leb s p && b)) (sym (sp.last (p - s) (omega arith)))

-- a strip of n pixels is one move up of a string that is widened to n
pub strip_one : (xs ys ws : List ℕ) (n place count : ℕ) → count ≡ n → OrFlat xs ws place ys → (bs : List ℕ) → Widened bs n ws → StripMarked xs bs place count ys
strip_one xs ys ws n place count e f bs h =
    record {
      same = f.same;
      each = λ p. f.each p
          ∙ ap (λ (b : Bool). bit_in xs p || (leb place p && b)) (h (p - place) ∙ ap (λ (k : ℕ). any_below k (Down (bit_in bs) (p - place))) (sym e));
    }

-- a strip is two moves up of a widened string
pub strip_from : (xs ms ys ws : List ℕ) (n place count : ℕ) → n ≤ count → count ≤ n + n → OrFlat xs ws place ms → OrFlat ms ws (place + (count - n)) ys
    → (bs : List ℕ) → Widened bs n ws → StripMarked xs bs place count ys
strip_from xs ms ys ws n place count ln lc f g bs h =
    record {
      same = g.same ∙ f.same;
      each = λ p. g.each p ∙ ap (λ (b : Bool). b || (leb (place + (count - n)) p && bit_in ws (p - (place + (count - n))))) (f.each p)
          ∙ or_assoc (bit_in xs p) _ _ ∙ ap (λ (b : Bool). bit_in xs p || b) (two p (below_or p place));
    }
  where
    two : (p : ℕ) → (p < place) ⊎ (place ≤ p)
        → ((leb place p && bit_in ws (p - place)) || (leb (place + (count - n)) p && bit_in ws (p - (place + (count - n)))))
        ≡ (leb place p && any_below count (Down (bit_in bs) (p - place)))
    two p (inl l) = simp (lt-leb place p l, lt-leb (place + (count - n)) p (omega arith))
    two p (inr l) =
        let e : p - (place + (count - n)) ≡ p - place - (count - n) = omega arith in
        let c : n + (count - n) ≡ count = omega arith in
        let t : leb (place + (count - n)) p ≡ leb (count - n) (p - place) = same_leb p l (below_or p (place + (count - n))) in
        simp (le-leb place p l)
        (ap₂ ◌||◌ (h (p - place)) (ap₂ ◌&&◌ t (ap (bit_in ws) e ∙ h (p - place - (count - n))))
        ∙ any_wider (bit_in bs) n (count - n) (p - place) (omega arith)
        ∙ ap (λ (k : ℕ). any_below k (Down (bit_in bs) (p - place))) c)
      where
        same_leb : (p : ℕ) → place ≤ p → (p < place + (count - n)) ⊎ (place + (count - n) ≤ p) → leb (place + (count - n)) p ≡ leb (count - n) (p - place)
        same_leb p l (inl m) = lt-leb (place + (count - n)) p m ∙ sym (lt-leb (count - n) (p - place) (omega arith))
        same_leb p l (inr m) = le-leb (place + (count - n)) p m ∙ sym (le-leb (count - n) (p - place) (omega arith))
