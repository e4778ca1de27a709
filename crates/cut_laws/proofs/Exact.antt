-- Document 02, point 2: what a step of a list of lines holds in millimetres, where the lines' ends are within document 01's limits. Assumes
-- nothing.
use Rattle.list_laws.proofs.Kit.{◌∙◌, ◌≡◌, ap, subst, sym, List, ◌<◌, ◌≤◌, ℕ, arith, length}
use Rattle.model.specs.Piece.{Point}
use Rattle.model.specs.Cut.{CutLine, Step, smaller_end, larger_end, step_at, pitch_bound, step_in}
use Rattle.model.specs.Lent.{column_bound}
use Rattle.cut_laws.specs.Lines.{cut_line_at}
use Rattle.cut_laws.specs.Exact.{LiftsTo, CutsTo, StepExact}
use Rattle.cut_laws.proofs.Steps.{step_claims}
use Rattle.cut_laws.proofs.Millimetres.{exact_within}

-- no number of a point is above document 01's limit of columns
abbrev pub PointBounded : Point → Type 0
PointBounded p = (p.x ≤ column_bound) × (p.y ≤ column_bound)

-- the step with number k
pub step_exact : (ls : List CutLine) (pitch k : ℕ) → pitch ≤ pitch_bound → ((i : ℕ) → i < length ls → PointBounded (smaller_end (cut_line_at ls i)))
    → ((i : ℕ) → i < length ls → PointBounded (larger_end (cut_line_at ls i))) → StepExact ls pitch k (step_in pitch (step_at ls k))
step_exact ls pitch k small smaller larger =
    record {
      lifts = λ i h e.
          let p = smaller_end (cut_line_at ls i) in
          subst (λ (s : Step). LiftsTo pitch p (step_in pitch s)) (sym (ap (step_at ls) e ∙ (step_claims ls).lifts i h))
          (exact_within p.x pitch (smaller i h).0 small, exact_within p.y pitch (smaller i h).1 small);
      cuts = λ i h e.
          let p = larger_end (cut_line_at ls i) in
          subst (λ (s : Step). CutsTo pitch p (step_in pitch s)) (sym (ap (step_at ls) e ∙ (step_claims ls).cuts i h))
          (exact_within p.x pitch (larger i h).0 small, exact_within p.y pitch (larger i h).1 small);
      ends = λ h. ap (step_in pitch) ((step_claims ls).ends k h);
    }
