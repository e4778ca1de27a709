-- Document 02, point 2: the steps of a list of lines. Each line has two, so that step 2k lifts to the smaller end of line k and step
-- 2k + 1 cuts to its other end; from twice the number of lines on every step is done. Assumes nothing.
use Rattle.list_laws.proofs.Kit.{◌∙◌, ◌≡◌, ap, refl, List, [], ◌∷◌, ◌*◌, ◌+◌, ◌<◌, suc, zero, ℕ, arith, length, get_or, not-suc-le-zero, le_of_suc-le-suc}
use Rattle.list_laws.proofs.Kit.{get_or-eq_default}
use Rattle.model.specs.Cut.{CutLine, lift, cut, done, smaller_end, larger_end, steps, step_at}
use Rattle.cut_laws.specs.Lines.{cut_line_at, StepClaims}

-- two steps for each line
pub steps_length : (ls : List CutLine) → length (steps ls) ≡ 2 * length ls
unfolding steps
steps_length [] = refl
steps_length (l ∷ ls) = let e = steps_length ls in omega arith

-- step 2k
step_lifts : (ls : List CutLine) (k : ℕ) → k < length ls → get_or (steps ls) (2 * k) done ≡ lift (smaller_end (cut_line_at ls k))
unfolding steps
step_lifts [] k l = absurd (not-suc-le-zero l)
step_lifts (m ∷ ls) zero l = refl
step_lifts (m ∷ ls) (suc k) l =
    let two : 2 * suc k ≡ suc (suc (2 * k)) = omega arith in
    ap (λ (i : ℕ). get_or (steps (m ∷ ls)) i done) two ∙ step_lifts ls k (le_of_suc-le-suc l)

-- step 2k + 1
step_cuts : (ls : List CutLine) (k : ℕ) → k < length ls → get_or (steps ls) (2 * k + 1) done ≡ cut (larger_end (cut_line_at ls k))
unfolding steps
step_cuts [] k l = absurd (not-suc-le-zero l)
step_cuts (m ∷ ls) zero l = refl
step_cuts (m ∷ ls) (suc k) l =
    let two : 2 * suc k + 1 ≡ suc (suc (2 * k + 1)) = omega arith in
    ap (λ (i : ℕ). get_or (steps (m ∷ ls)) i done) two ∙ step_cuts ls k (le_of_suc-le-suc l)

-- the steps of a list of lines
pub step_claims : (ls : List CutLine) → StepClaims ls
unfolding step_at
step_claims ls =
    record {
      lifts = step_lifts ls;
      cuts = step_cuts ls;
      ends = λ k l. let e = steps_length ls in get_or-eq_default (steps ls) done (omega arith);
    }
