-- The mathematics of document 01, section by section, and of document 02, point by point. Each file's first lines name its section or point.
--
-- For a reader who does not know antt: `name : A → B → C` says that name takes an A and a B and gives a C; `f a b` is f of a and b.
-- `suc n` is n + 1, and `a - b` on ℕ is cut off: 0 where b is larger. In ℤ, `pos n` is n and `negsuc n` is -(n + 1).
-- `ltb a b`, `leb a b`, `eqb a b` test a < b, a ≤ b, a = b, with the answer true or false; `◌≡◌` is equality as a statement.
-- `x ∷ xs` is a list with x in front, `[]` the empty one, `xs ++ ys` one list after the other.
-- `get_or xs i d` is element i of a list, from 0, or d where there is none; `set xs i a` puts a in its place, if there is one.
-- `elim b [ true ↦ x | false ↦ y ]` goes by cases: x if b is true, y if it is false; a definition in several lines goes by cases too.
-- `record { first = a; second = b }` makes a record of its fields, and `r.first` is a field of r. `λ x y. e` takes x and y and gives e.
-- `unless causes a` (Refusal) refuses with the first cause in the list that is there, and gives a where none is.
-- `pub`: other files may use the name. `abbrev`: proofs see through the name everywhere; `unfoldable`: only where they ask for it by
-- `unfolding`. What is defined is the same either way.
pub mod Bounded
pub mod Piece
pub mod Strip
pub mod Overlap
pub mod Layout
pub mod Search
pub mod Descent
pub mod Guided
pub mod Start
pub mod Refusal
pub mod Answers
pub mod Lent
pub mod Buffer
pub mod Text
pub mod JobText
pub mod LayoutText
pub mod Store
pub mod Cover
pub mod Cut
pub mod Compact
pub mod Calls
pub mod Program
pub mod Examples
pub mod Worked
pub mod CutExamples
pub mod TextExamples
pub mod LockExamples
pub mod CompactExamples
