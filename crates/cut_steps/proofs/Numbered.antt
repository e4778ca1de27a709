-- A step by its number's half and its oddness. Assumes nothing.
use Rattle.list_laws.proofs.Kit.{◌∙◌, ◌≡◌, ap, refl, subst, sym, List, [], map}
use Rattle.list_laws.proofs.Kit.{◌*◌, ◌+◌, ◌/◌, ◌%◌, ◌<◌, ◌≤◌, ℕ, arith, get_or, length, length-map, get_or-map, ◌≢◌}
use Rattle.model.specs.Cut.{CutLine, lift, cut, done, smaller_end, larger_end, step_at, entry_line}
use Rattle.model.specs.declared.CutStep.{CutStep}
use Rattle.model.specs.declared.CutStep.TheVariants.{Done}
use Rattle.cut_laws.specs.Lines.{cut_line_at}
use Rattle.cut_laws.specs.Exact.{LiftsTo, CutsTo, StepExact}
use Rattle.cut_laws.proofs.Steps.{step_claims}

module _ (es : List (List ℕ)) where
  abbrev ls : List CutLine
  ls = map entry_line es

  -- line number k is that of entry k
  line_entry_lem : (k : ℕ) → cut_line_at ls k ≡ entry_line (get_or es k [])
  line_entry_lem k = get_or-map entry_line es k []

  -- an even step below the end lifts
  pub even_step : (n : ℕ) → n / 2 < length es → n % 2 ≡ 0 → step_at ls n ≡ lift (smaller_end (entry_line (get_or es (n / 2) [])))
  even_step n l e =
      let half : n ≡ 2 * (n / 2) = omega arith in
      let long = length-map es entry_line in
      ap (step_at ls) half ∙ (step_claims ls).lifts (n / 2) (omega arith) ∙ ap (λ (m : CutLine). lift (smaller_end m)) (line_entry_lem (n / 2))

  -- an odd one cuts
  pub odd_step : (n : ℕ) → n / 2 < length es → n % 2 ≢ 0 → step_at ls n ≡ cut (larger_end (entry_line (get_or es (n / 2) [])))
  odd_step n l e =
      let half : n ≡ 2 * (n / 2) + 1 = omega arith in
      let long = length-map es entry_line in
      ap (step_at ls) half ∙ (step_claims ls).cuts (n / 2) (omega arith) ∙ ap (λ (m : CutLine). cut (larger_end m)) (line_entry_lem (n / 2))

  -- from the end on every step is done
  pub past_step : (n : ℕ) → length es ≤ n / 2 → step_at ls n ≡ done
  past_step n l = let long = length-map es entry_line in (step_claims ls).ends n (omega arith)

  -- and each holds what its number says, where the point that it goes to is not rounded
  pub even_exact : (pitch n : ℕ) → n / 2 < length es → n % 2 ≡ 0 → {t : CutStep}
      → LiftsTo pitch (smaller_end (entry_line (get_or es (n / 2) []))) t → StepExact ls pitch n t
  even_exact pitch n l e {t} to =
      let long = length-map es entry_line in
      record {
        lifts = λ i h k.
            let same : n / 2 ≡ i = omega arith in
            subst (λ (m : CutLine). LiftsTo pitch (smaller_end m) t) (sym (line_entry_lem i))
            (subst (λ (m : ℕ). LiftsTo pitch (smaller_end (entry_line (get_or es m []))) t) same to);
        cuts = λ i h k. absurd (omega arith);
        ends = λ h. absurd (omega arith);
      }

  pub odd_exact : (pitch n : ℕ) → n / 2 < length es → n % 2 ≢ 0 → {t : CutStep}
      → CutsTo pitch (larger_end (entry_line (get_or es (n / 2) []))) t → StepExact ls pitch n t
  odd_exact pitch n l e {t} to =
      let long = length-map es entry_line in
      record {
        lifts = λ i h k. absurd (e (omega arith));
        cuts = λ i h k.
            let same : n / 2 ≡ i = omega arith in
            subst (λ (m : CutLine). CutsTo pitch (larger_end m) t) (sym (line_entry_lem i))
            (subst (λ (m : ℕ). CutsTo pitch (larger_end (entry_line (get_or es m []))) t) same to);
        ends = λ h. absurd (omega arith);
      }

  pub past_exact : (pitch n : ℕ) → length es ≤ n / 2 → StepExact ls pitch n Done
  past_exact pitch n l =
      let long = length-map es entry_line in
      record { lifts = λ i h k. absurd (omega arith); cuts = λ i h k. absurd (omega arith); ends = λ h. refl }
