-- How many strips lines have: no two strips of a line touch, so twice the strips are at most the lines' pixels and one more for each line.
-- Assumes nothing.
use Rattle.list_laws.proofs.Kit.{Bool, false, true, List, ◌*◌, ◌+◌, ◌≤◌, min, suc, zero, ℕ, suc-mul, arith, length, length-append, length-map}
use Rattle.model.specs.Piece.{Shape, extent, cell}
use Rattle.model.specs.Strip.{Run, closing, runs_from, strips_from}
use Rattle.model.specs.declared.Direction.{Direction}

-- a run that ends leaves a gap behind it
closing_half : (i run left : ℕ) (later : List Run) → 2 * length later ≤ left + 1 → 2 * length (closing i run later) ≤ suc left + 1 + min run 1
closing_half i zero left later h = omega arith
closing_half i (suc run) left later h = omega arith

half_step : (f : ℕ → Bool) (i left run : ℕ) (b : Bool) → ((run : ℕ) → 2 * length (runs_from f (suc i) left run) ≤ left + 1 + min run 1)
    → 2 * length {A = Run} (elim b as (λ _. List Run) [ true ↦ runs_from f (suc i) left (suc run) | false ↦ closing i run (runs_from f (suc i) left 0) ])
    ≤ suc left + 1 + min run 1
half_step f i left run true h = let k = h (suc run) in omega arith
half_step f i left run false h = let k = h 0 in closing_half i run left (runs_from f (suc i) left 0) (omega arith)

-- twice the runs are at most the numbers and one, and one more where a run is under way
runs_half : (f : ℕ → Bool) (i left run : ℕ) → 2 * length (runs_from f i left run) ≤ left + 1 + min run 1
unfolding runs_from
runs_half f i zero zero = omega arith
runs_half f i zero (suc run) = omega arith
runs_half f i (suc left) run = half_step f i left run (f i) (runs_half f (suc i) left)

-- twice the strips of lines are at most their pixels and one for each line
pub lines_half : (d : Direction) (s : Shape) (c left : ℕ) → 2 * length (strips_from d s c left) ≤ left * suc (extent d s)
unfolding strips_from
lines_half d s c zero = omega arith
lines_half d s c (suc left) =
    let f : ℕ → Bool = λ k. cell d s k c in
    let one = runs_half f 0 (extent d s) 0 in
    let rest = lines_half d s (suc c) left in
    simp (length-append, length-map) (omega (arith, suc-mul left (suc (extent d s))))
