-- What a made string says: a bit is set exactly where a pixel of a strip and a mark add up to its place, or where it was set before.
-- Assumes nothing.
use Rattle.list_laws.proofs.Kit.{◌∙◌, ◌≡◌, ap, sym, ◌&&◌, true, ◌⊎◌, inl, inr, List, ◌+◌, ◌-◌, ◌<◌, ◌≤◌, ℕ, arith, leb, le-leb, leb-true}
use Rattle.list_laws.proofs.Bounded.{any_witness, any_from}
use Rattle.list_laws.proofs.Tests.{and_left, and_right, and_both, or_cases, or_right}
use Rattle.model.specs.Bounded.{any_below}
use Rattle.pair_overlap.specs.Meet.{strip_at}
use Rattle.bit_laws.specs.Bit.{bit_in}
use Rattle.search_marks.specs.Marks.{place_of, strip_bit, Made}

-- pixel t of strip i and a mark at q add up to p
pub record Sum (es : List (List ℕ)) (n : ℕ) (bs : List ℕ) (w up p : ℕ) : Type 0 where
  pub i : ℕ
  pub t : ℕ
  pub q : ℕ
  pub i_in : i < n
  pub t_in : t < (strip_at es i).count
  pub marked : bit_in bs q ≡ true
  pub sum : p ≡ place_of w up (strip_at es i) + t + q

module _ (xs bs : List ℕ) (es : List (List ℕ)) (w up n : ℕ) (ys : List ℕ) (m : Made xs bs es w up n ys) (p : ℕ) where
  -- a strip that has the place gives the sum
  found : any_below n (λ i. strip_bit bs w up (strip_at es i) p) ≡ true → Sum es n bs w up p
  unfolding strip_bit
  found e =
      let f = any_witness n (λ i. strip_bit bs w up (strip_at es i) p) e in
      let at : ℕ = place_of w up (strip_at es f.number) in
      let lp : at ≤ p = leb-true _ _ (and_left (leb at p) _ f.passing) in
      let g = any_witness (strip_at es f.number).count (λ t. leb t (p - at) && bit_in bs (p - at - t)) (and_right (leb at p) _ f.passing) in
      let lt : g.number ≤ p - at = leb-true _ _ (and_left (leb g.number (p - at)) _ g.passing) in
      record {
        i = f.number;
        t = g.number;
        q = p - at - g.number;
        i_in = f.below;
        t_in = g.below;
        marked = and_right (leb g.number (p - at)) _ g.passing;
        sum = omega arith;
      }

  -- a set bit was set before, or is a sum
  pub made_only : bit_in ys p ≡ true → (bit_in xs p ≡ true) ⊎ Sum es n bs w up p
  made_only e = go (or_cases (bit_in xs p) _ (sym (m.each p) ∙ e))
    where
      go : (bit_in xs p ≡ true) ⊎ (any_below n (λ i. strip_bit bs w up (strip_at es i) p) ≡ true) → (bit_in xs p ≡ true) ⊎ Sum es n bs w up p
      go (inl h) = inl h
      go (inr h) = inr (found h)

  -- a sum is set
  pub made_set : Sum es n bs w up p → bit_in ys p ≡ true
  unfolding strip_bit
  made_set k =
      let at : ℕ = place_of w up (strip_at es k.i) in
      let s : p ≡ at + k.t + k.q = k.sum in
      let e : p - at - k.t ≡ k.q = omega arith in
      m.each p
      ∙ or_right (bit_in xs p) _
      (any_from n k.i (λ i. strip_bit bs w up (strip_at es i) p) k.i_in
      (and_both (le-leb at p (omega arith))
      (any_from (strip_at es k.i).count k.t (λ t. leb t (p - at) && bit_in bs (p - at - t)) k.t_in
      (and_both (le-leb k.t (p - at) (omega arith)) (ap (bit_in bs) e ∙ k.marked)))))
