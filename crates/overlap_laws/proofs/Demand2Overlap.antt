-- Demand 2, shared pixel, penalty and no-fit rows (document 01, 'No-fit rows and penalty'), with document 02's gap, by which shared pixels become
-- conflicts: the last theorem says it whole, over the pixel sets of two shapes at any corners and over the direction; its parts are proved in
-- Share, Depth, Grown, PixelDepth, Penalty and NoFit. Boxes have sides of at most 255 and gaps are at most 8, as in every job, where the
-- no-fit lines need it. Assumes nothing.
use Rattle.list_laws.proofs.Kit.{◌≡◌, refl, true, ◌↔◌, ◌≤◌, ℕ, sub_ℕ, ℤ}
use Rattle.model.specs.Piece.{Point, Shape, gap_bound, along, across, extent}
use Rattle.model.specs.Overlap.{conflict, offset_bound, no_fit}
use Rattle.model.specs.declared.Direction.{Direction}
use Rattle.overlap_laws.specs.Overlap.{PenaltyLaws, PaperLaws}
use Rattle.overlap_laws.proofs.Penalty.{demand2_penalty, paper_penalty}
use Rattle.overlap_laws.specs.NoFit.{offset_reach, InOffsetRuns, NoFitLine, ReachAttained}
use Rattle.overlap_laws.proofs.NoFit.{no_fit_line, offset_reached, no_fit_conflict}

-- what demand 2 says of two shapes
pub record Demand2Overlap : Type 0 where
  -- the test, depths and penalty of s at corner u and t at corner v by a gap g, over pixels and whole shifts
  pub penalties : (g : ℕ) (s : Shape) (u : Point) (t : Shape) (v : Point) → PenaltyLaws g s u t v
  -- with no gap they are the paper's
  pub paper : (s : Shape) (u : Point) (t : Shape) (v : Point) → PaperLaws s u t v
  -- the no-fit row (horizontal) at a row offset, or the no-fit column (vertical) at a column offset
  pub no_fit_lines : (g : ℕ) (d : Direction) (s t : Shape) → g ≤ 8 → ((e : Direction) → extent e s ≤ 255) → ((e : Direction) → extent e t ≤ 255) → (o : ℤ)
      → NoFitLine g d s t o (no_fit g d s t o)
  -- its offsets go as far as 254 without a gap and as far as 262 with the largest, which is what the definition tries
  pub no_fit_reaches : (offset_reach 0 ≡ 254) × (offset_reach gap_bound ≡ 262) × (offset_bound ≡ 262)
  -- the range of its offsets is no wider than it has to be
  pub no_fit_reached : (g : ℕ) (d : Direction) → g ≤ 8 → ReachAttained g d
  -- the test says yes exactly when the corners' difference along the direction is listed at their difference across it
  pub no_fit_conflicts : (g : ℕ) (d : Direction) (s : Shape) (u : Point) (t : Shape) (v : Point) → g ≤ 8 → extent d s ≤ 255 → extent d t ≤ 255
      → (conflict g s u t v ≡ true) ↔ InOffsetRuns (sub_ℕ (along d v) (along d u)) (no_fit g d s t (sub_ℕ (across d v) (across d u)))

-- demand 2, conflict, penalty and no-fit rows, holds
pub demand2_overlap : Demand2Overlap
demand2_overlap =
    record {
      penalties = demand2_penalty;
      paper = paper_penalty;
      no_fit_lines = no_fit_line;
      no_fit_reaches = (refl, refl, refl);
      no_fit_reached = offset_reached;
      no_fit_conflicts = no_fit_conflict;
    }
