-- Document 01, 'When a call says no', refusal 8: a lent job that passes the check meets what the theorems about strips and no-fit rows
-- ask for. Its boxes have sides of at most 255, in every turn, and are tight, so that no piece is without strips. Assumes nothing.
use Rattle.list_laws.proofs.Kit.{◌≡◌, true, ◌+◌, ◌<◌, ◌≤◌, ℕ, length, ℤ, arith}
use Rattle.model.specs.Piece.{tight}
use Rattle.model.specs.Strip.{strips}
use Rattle.model.specs.Overlap.{no_fit}
use Rattle.model.specs.Layout.{turned_piece}
use Rattle.model.specs.Lent.{Lent, job_of, lent_well, lent_shape, entry_area, area_bound}
use Rattle.model.specs.declared.Turn.{Turn}
use Rattle.model.specs.declared.Turn.TheVariants.{Zero}
use Rattle.model.specs.declared.Direction.{Direction}
use Rattle.model.specs.declared.Direction.TheVariants.{Horizontal, Vertical}
use Rattle.strip_laws.proofs.Turns.{turned_tight}
use Rattle.strip_laws.proofs.Rebuild.{strips_some}
use Rattle.overlap_laws.specs.NoFit.{NoFitLine}
use Rattle.overlap_laws.proofs.NoFit.{no_fit_line}
use Rattle.job_laws.proofs.Checked.{facts, lent_turned_small}
use Rattle.job_laws.proofs.Starts.{start_end}
use Rattle.descent_laws.proofs.Bounds.{BoxesSmall}

module _ (l : Lent) (well : lent_well l ≡ true) where
  -- two boxes of a lent job have at most 65,536 pixels together: the first's end where the second's begin, or before
  lent_together : (i k : ℕ) → i < k → k < l.size.count → entry_area l.table i + entry_area l.table k ≤ area_bound
  lent_together i k h b =
      let f = facts l well in
      omega (arith, start_end l.table i k h, f.ends k b, f.areas)

  -- a lent job's boxes have sides of at most 255
  pub lent_boxes_small : BoxesSmall (job_of l)
  unfolding job_of
  lent_boxes_small =
      record {
        columns_small = λ i b. lent_turned_small l well Horizontal i Zero b;
        rows_small = λ i b. lent_turned_small l well Vertical i Zero b;
        together = lent_together;
        gap_small = (facts l well).small_gap;
      }

  -- they are tight, in every turn
  pub lent_tight : (i : ℕ) (t : Turn) → i < (job_of l).size.count → tight (turned_piece (job_of l) i t) ≡ true
  unfolding job_of
  lent_tight i t b = turned_tight t (lent_shape l i) ((facts l well).tight_boxes i b)

  -- the no-fit rows and columns of a lent job's pieces in their turns are as document 01 says
  pub lent_no_fit : (d : Direction) (i k : ℕ) (t u : Turn) → i < (job_of l).size.count → k < (job_of l).size.count → (o : ℤ)
      → NoFitLine l.size.gap d (turned_piece (job_of l) i t) (turned_piece (job_of l) k u) o
      (no_fit l.size.gap d (turned_piece (job_of l) i t) (turned_piece (job_of l) k u) o)
  lent_no_fit d i k t u b c o =
      no_fit_line l.size.gap d _ _ (facts l well).small_gap (λ e. lent_turned_small l well e i t b) (λ e. lent_turned_small l well e k u c) o

  -- no piece of a lent job is without strips, in any turn and direction
  pub lent_strips_some : (d : Direction) (i : ℕ) (t : Turn) → i < (job_of l).size.count → 0 < length (strips d (turned_piece (job_of l) i t))
  lent_strips_some d i t b = strips_some d _ (lent_tight i t b)
