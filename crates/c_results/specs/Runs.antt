-- What the numbers of a run stand for. Assumes nothing.
use Rattle.std.specs.Prelude.{true, false, List, ℕ, eqb}
use Rattle.model.specs.Layout.{Layout}
use Rattle.model.specs.Descent.{Descent}
use Rattle.model.specs.Guided.{Guided}
use Rattle.model.specs.declared.End.{End}
use Rattle.model.specs.declared.End.TheVariants.{Clear, Settled, Spent}

-- the end that a number tells: 0 clear, 1 settled, every other number spent
abbrev pub end_told : ℕ → End
end_told number = elim (eqb number 0) [ true ↦ Clear | false ↦ elim (eqb number 1) [ true ↦ Settled | false ↦ Spent ] ]

-- the descent of these numbers that ends with this layout
abbrev pub descent_told : ℕ → ℕ → ℕ → ℕ → Layout → Descent
descent_told end sum made moves v = record { end = end_told end; layout = v; sum = sum; made = made; moves = moves }

-- the guided run of these numbers with this best layout and these weights
abbrev pub guided_told : ℕ → ℕ → ℕ → Layout → List ℕ → Guided
guided_told sum made moves v ws = record { layout = v; sum = sum; weights = ws; made = made; moves = moves }
