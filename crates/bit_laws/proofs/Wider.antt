-- Marks widened, over any test. Assumes nothing.
use Rattle.list_laws.proofs.Kit.{◌∙◌, ◌≡◌, ap, Bool, ◌&&◌, ◌||◌, true, ◌⊎◌, inl, inr, ◌+◌, ◌-◌, ◌<◌, ◌≤◌, ℕ, arith, leb, le-leb, leb-true}
use Rattle.list_laws.proofs.Numbers.{below_or}
use Rattle.list_laws.proofs.Bounded.{Witness, any_witness, any_from}
use Rattle.list_laws.proofs.Tests.{and_left, and_right, and_both, or_cases, or_left, or_right, same_tests}
use Rattle.model.specs.Bounded.{any_below}

-- the mark t places down from x
abbrev pub Down : (ℕ → Bool) → ℕ → ℕ → Bool
Down B x t = leb t x && B (x - t)

-- such a mark from its two tests
pub down_both : (B : ℕ → Bool) (x t : ℕ) → t ≤ x → B (x - t) ≡ true → Down B x t ≡ true
down_both B x t l e = and_both (le-leb t x l) e

module _ (B : ℕ → Bool) (n s x : ℕ) (l : s ≤ n) where
  -- one of two ranges of marks lies in the wider one
  joined : (any_below n (Down B x) || (leb s x && any_below n (Down B (x - s)))) ≡ true → any_below (n + s) (Down B x) ≡ true
  joined e = go (or_cases (any_below n (Down B x)) (leb s x && any_below n (Down B (x - s))) e)
    where
      go : (any_below n (Down B x) ≡ true) ⊎ ((leb s x && any_below n (Down B (x - s))) ≡ true) → any_below (n + s) (Down B x) ≡ true
      go (inl p) = let w = any_witness n (Down B x) p in any_from (n + s) w.number (Down B x) (omega (arith, w.below)) w.passing
      go (inr p) =
          let sx : s ≤ x = leb-true s x (and_left (leb s x) (any_below n (Down B (x - s))) p) in
          let w = any_witness n (Down B (x - s)) (and_right (leb s x) (any_below n (Down B (x - s))) p) in
          let tx : w.number ≤ x - s = leb-true w.number (x - s) (and_left (leb w.number (x - s)) (B (x - s - w.number)) w.passing) in
          let eq : x - (w.number + s) ≡ x - s - w.number = omega arith in
          any_from (n + s) (w.number + s) (Down B x) (omega (arith, w.below))
          (down_both B x (w.number + s) (omega arith) (ap B eq ∙ and_right (leb w.number (x - s)) (B (x - s - w.number)) w.passing))

  -- a mark of the wider range lies in one of the two
  apart : any_below (n + s) (Down B x) ≡ true → (any_below n (Down B x) || (leb s x && any_below n (Down B (x - s)))) ≡ true
  apart e = go (any_witness (n + s) (Down B x) e)
    where
      go : Witness (n + s) (Down B x) → (any_below n (Down B x) || (leb s x && any_below n (Down B (x - s)))) ≡ true
      go w = pick (below_or w.number n)
        where
          pick : (w.number < n) ⊎ (n ≤ w.number) → (any_below n (Down B x) || (leb s x && any_below n (Down B (x - s)))) ≡ true
          pick (inl m) = or_left _ _ (any_from n w.number (Down B x) m w.passing)
          pick (inr m) =
              let tx : w.number ≤ x = leb-true w.number x (and_left (leb w.number x) (B (x - w.number)) w.passing) in
              let eq : x - s - (w.number - s) ≡ x - w.number = omega arith in
              or_right (any_below n (Down B x)) _
              (and_both (le-leb s x (omega arith))
              (any_from n (w.number - s) (Down B (x - s)) (omega (arith, w.below))
              (down_both B (x - s) (w.number - s) (omega arith) (ap B eq ∙ and_right (leb w.number x) (B (x - w.number)) w.passing))))

  -- a mark among the n down from x, or among the n down from s lower, is one among the n + s down from x
  pub any_wider : (any_below n (Down B x) || (leb s x && any_below n (Down B (x - s)))) ≡ any_below (n + s) (Down B x)
  any_wider = same_tests _ _ joined apart
