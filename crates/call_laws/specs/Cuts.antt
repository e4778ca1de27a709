-- What a cut list that is given means, with document 01's limits (document 02, point 2). The theorem is `cut_given` in proofs/Cuts. Assumes
-- nothing.
use Rattle.std.specs.Prelude.{List, ℕ, ◌<◌, ◌≤◌, length}
use Rattle.model.specs.Piece.{Point}
use Rattle.model.specs.Lent.{Lent, job_of, row_bound, column_bound}
use Rattle.model.specs.Buffer.{layout_of}
use Rattle.model.specs.Cut.{cut_lines, smaller_end, larger_end, pitch_bound, step_at, step_in}
use Rattle.cut_laws.specs.Lines.{cut_line_at}
use Rattle.cut_laws.specs.Sides.{CutClaims}
use Rattle.cut_laws.specs.Exact.{StepExact}

-- no layout has more lines: they are at most (W + 1) × (L + 1), so 65,536 + 512 + 4,096 + 1, by the limits of W × L, W and L
abbrev pub most_lines : ℕ
most_lines = 70145

-- a point of pixel lines is within the limits of a sheet
pub record SmallPoint (p : Point) : Type 0 where
  pub column : p.x ≤ column_bound
  pub row : p.y ≤ row_bound

-- the cut list of a lent layout
pub record CutListClaims (l : Lent) (es : List (List ℕ)) : Type 0 where
  -- what the request says of it
  pub claims : CutClaims (job_of l) (layout_of es)
  -- no end of a line has an x above 4,096 or a y above 512
  pub smaller : (k : ℕ) → k < length (cut_lines (job_of l) (layout_of es)) → SmallPoint (smaller_end (cut_line_at (cut_lines (job_of l) (layout_of es)) k))
  pub larger : (k : ℕ) → k < length (cut_lines (job_of l) (layout_of es)) → SmallPoint (larger_end (cut_line_at (cut_lines (job_of l) (layout_of es)) k))
  -- a buffer of 70,145 lines has room for it
  pub most : length (cut_lines (job_of l) (layout_of es)) ≤ most_lines
  -- each step in millimetres is the one that its number says, to a point that is not rounded
  pub steps : (pitch k : ℕ) → pitch ≤ pitch_bound
      → StepExact (cut_lines (job_of l) (layout_of es)) pitch k (step_in pitch (step_at (cut_lines (job_of l) (layout_of es)) k))
