-- Shifts that are known to be marked, and what is joined to them. Assumes nothing.
use Rattle.list_laws.proofs.Kit.{⊎_elim, List, ℕ, arith}
use Rattle.pair_nofit.specs.declared.Covered.{Covered}
use Rattle.pair_nofit.specs.Marks.{IntervalMarked, Covers, Joined}
use Rattle.pair_nofit.proofs.Words.{interval_grows, interval_marks}

-- what is joined is marked
pub joined_covers : (c r : Covered) (low high : ℕ) (before after : List ℕ) → Covers c before → Joined c low high r → IntervalMarked low high before after
    → Covers r after
joined_covers c r low high before after w j i m l a b =
    ⊎_elim (λ h. interval_grows low high before after i m (w m (omega (arith, i.same)) h.0 h.1))
    (λ h. interval_marks low high before after i m l h.0 h.1)
    (j.each m a b)
