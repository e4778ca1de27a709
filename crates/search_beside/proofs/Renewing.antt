-- The table of pair penalties when the mover is placed anew. Assumes nothing.
use Rattle.list_laws.proofs.Kit.{◌≡◌, subst, sym, List, ◌+◌, ◌<◌, ℕ, arith, length, length-map}
use Rattle.model.specs.Layout.{Job, Layout}
use Rattle.model.specs.Lent.{Lent}
use Rattle.model.specs.Buffer.{layout_of, placement_of}
use Rattle.model.specs.declared.Placement.{Placement}
use Rattle.search_laws.specs.Table.{Renewed}
use Rattle.search_laws.proofs.Table.{renewed_self}
use Rattle.descent_laws.specs.LentLayout.{Laid}

-- the mover itself is passed over
pub renewed_own : (j : Job) (v : Layout) (n i : ℕ) (p : Placement) (k : ℕ) (T : List ℕ) → k ≡ i → Renewed j v n i p k T → Renewed j v n i p (k + 1) T
renewed_own j v n i p k T e h =
    subst (λ (z : ℕ). Renewed j v n i p (z + 1) T) (sym e) (renewed_self j v n i p T (subst (λ (z : ℕ). Renewed j v n i p z T) e h))

-- it has its place in the layout
pub mover_placed : (l : Lent) (layout : List (List ℕ)) (i : ℕ) → Laid l layout → i < l.size.count → i < length (layout_of layout)
mover_placed l layout i laid b = let e = length-map layout placement_of in let w = laid.whole in omega arith
