-- What the check of a layout says (document 01, 'When a call says no'). The theorems are in proofs/Checks. Assumes nothing.
use Rattle.std.specs.Prelude.{◌⊎◌, ◌≡◌, ◌<◌, ℕ}
use Rattle.model.specs.Layout.{Pair, Job, Layout}
use Rattle.model.specs.Refusal.{pieces_conflict}
use Rattle.model.specs.declared.Refusal.{Refusal}
use Rattle.descent_laws.specs.Sums.{PairOrdered}
use Rattle.descent_laws.specs.Claims.{ValidLayout, NoConflict}
use Rattle.call_laws.specs.Overlaps.{PairNear}

-- the pair p stands before the pair q: a lower first number, or the same and a lower second
abbrev pub PairBefore : Pair → Pair → Type 0
PairBefore p q = (p.first < q.first) ⊎ ((p.first ≡ q.first) × (p.second < q.second))

-- the pair that the check names: of two pieces that conflict, and every other such pair stands after it
pub record LowestPair (j : Job) (v : Layout) (p : Pair) : Type 0 where
  pub ordered : PairOrdered 0 j.size.count p
  pub conflicts : PairNear j v p.first p.second
  pub lowest : (i k : ℕ) → i < k → k < j.size.count → PairNear j v i k
      → (p ≡ record { first = i; second = k }) ⊎ PairBefore p (record { first = i; second = k })

-- a layout that passes the check
pub record Checked (j : Job) (v : Layout) : Type 0 where
  pub valid : ValidLayout j v
  pub apart : NoConflict j v

-- the refusal of a pair that conflicts
abbrev pub conflict_refusal : Pair → Refusal
conflict_refusal p = record { number = pieces_conflict; first = p.first; second = p.second }
