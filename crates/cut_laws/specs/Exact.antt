-- A step of the knife in millimetres: which it is, and that its two numbers are exactly those of a point of pixel lines (document 02, point 2).
-- Assumes nothing.
use Rattle.std.specs.Prelude.{false, List, ◌≡◌, ℕ, ◌+◌, ◌*◌, ◌<◌, ◌≤◌, Float, length}
use Rattle.std.specs.Float.Ieee.Exact.{HasValue}
use Rattle.model.specs.Piece.{Point}
use Rattle.model.specs.Cut.{CutLine, smaller_end, larger_end}
use Rattle.model.specs.declared.CutStep.{CutStep}
use Rattle.model.specs.declared.CutStep.TheVariants.{Lift, Cut, Done}
use Rattle.cut_laws.specs.Lines.{cut_line_at}

-- the two numbers are the point's pixel lines × pitch / 64, not rounded
abbrev pub PointExact : ℕ → Point → Float → Float → Type 0
PointExact pitch p x y = HasValue x false (p.x * pitch) 64 × HasValue y false (p.y * pitch) 64

-- the step lifts to just this point
abbrev pub LiftsTo : ℕ → Point → CutStep → Type 0
LiftsTo pitch p (Lift x y) = PointExact pitch p x y
LiftsTo pitch p (Cut x y) = ⊥
LiftsTo pitch p Done = ⊥

-- the step cuts to just this point
abbrev pub CutsTo : ℕ → Point → CutStep → Type 0
CutsTo pitch p (Cut x y) = PointExact pitch p x y
CutsTo pitch p (Lift x y) = ⊥
CutsTo pitch p Done = ⊥

-- the step with number k of a list of lines: 2i lifts to the smaller end of line i, 2i + 1 cuts to its other end, and any later one is done
pub record StepExact (ls : List CutLine) (pitch k : ℕ) (t : CutStep) : Type 0 where
  pub lifts : (i : ℕ) → i < length ls → k ≡ 2 * i → LiftsTo pitch (smaller_end (cut_line_at ls i)) t
  pub cuts : (i : ℕ) → i < length ls → k ≡ 2 * i + 1 → CutsTo pitch (larger_end (cut_line_at ls i)) t
  pub ends : 2 * length ls ≤ k → t ≡ Done
