-- What is measured of two pieces of a layout by the job's gap is what the model says of the pair. Assumes nothing.
use Rattle.list_laws.proofs.Kit.{◌∙◌, ◌≡◌, ap, sym, false, List, ℕ}
use Rattle.model.specs.Overlap.{conflict, conflict_penalty}
use Rattle.model.specs.Layout.{corner_in, pair_of, pair_conflicts, pair_penalty}
use Rattle.model.specs.Lent.{lent_by, job_of}
use Rattle.model.specs.Buffer.{layout_of}
use Rattle.model.specs.declared.JobSize.{JobSize}
use Rattle.overlap_laws.proofs.Penalty.{conflict_zero}
use Rattle.search_laws.specs.PieceSum.{penalty_between}
use Rattle.search_laws.proofs.PieceSum.{pair_between}
use Rattle.layout_strips.specs.Kept.{drawn_shape}

module _ (size : JobSize) (table : List (List ℕ)) (pixels : List ℕ) (es : List (List ℕ)) (g i k : ℕ) (same : size.gap ≡ g) where
  -- whether they conflict
  pub gap_conflicts : conflict g (drawn_shape size table pixels es i) (corner_in (layout_of es) i) (drawn_shape size table pixels es k) (corner_in (layout_of es) k)
      ≡ pair_conflicts (job_of (lent_by size table pixels)) (layout_of es) (pair_of i k)
  unfolding pair_conflicts job_of
  gap_conflicts =
      ap
      (λ (z : ℕ).
      conflict z (drawn_shape size table pixels es i) (corner_in (layout_of es) i) (drawn_shape size table pixels es k) (corner_in (layout_of es) k))
      (sym same)

  -- their penalty
  pub gap_penalty : conflict_penalty g (drawn_shape size table pixels es i) (corner_in (layout_of es) i) (drawn_shape size table pixels es k)
      (corner_in (layout_of es) k) ≡ penalty_between (job_of (lent_by size table pixels)) (layout_of es) i k
  unfolding pair_penalty job_of
  gap_penalty =
      ap
      (λ (z : ℕ).
      conflict_penalty z (drawn_shape size table pixels es i) (corner_in (layout_of es) i) (drawn_shape size table pixels es k) (corner_in (layout_of es) k))
      (sym same)
      ∙ pair_between (job_of (lent_by size table pixels)) (layout_of es) i k

  -- where they do not conflict it is 0
  pub clear_penalty : pair_conflicts (job_of (lent_by size table pixels)) (layout_of es) (pair_of i k) ≡ false
      → 0 ≡ penalty_between (job_of (lent_by size table pixels)) (layout_of es) i k
  clear_penalty e = sym (conflict_zero g _ _ _ _ (gap_conflicts ∙ e)) ∙ gap_penalty
