-- `search_classes::put_classes`: the words before this one are classes. Assumes nothing.
use Rattle.list_laws.proofs.Kit.{◌<◌, ◌≤◌, ℕ, get_or}
use Rattle.model.specs.Layout.{Job}
use Rattle.model.specs.Lent.{lent_by, job_of}
use Rattle.search_classes.specs.Classes.{Equal}
use Rattle.search_classes.proofs.put_classes.Given as goal

-- v is a class of piece i
abbrev pub ClassOf : Job → ℕ → ℕ → Type 0
ClassOf j i v = (v ≤ i) × Equal j i v

abbrev pub invariant-loop-i : goal.invariant-loop-i
invariant-loop-i l = (k : ℕ) → k < l.i → ClassOf (job_of (lent_by l.size l.table l.pixels)) k (get_or l.word-items k 0)
