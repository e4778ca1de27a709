-- Document 02, point 2: the lengths of the lines of a set of units add up to the number of its units. The runs of a line have as many
-- numbers as pass the line's test, and so line after line. Assumes nothing.
use Rattle.list_laws.proofs.Kit.{◌∙◌, ◌≡◌, ap, ap₂, refl, Bool, false, true, List, [], ◌++◌, ◌∷◌, map, map-append, ◌+◌, suc, zero, ℕ, add-zero, zero-add, sym}
use Rattle.list_laws.proofs.Kit.{arith}
use Rattle.list_laws.proofs.Sums.{sum_first, sum_agree}
use Rattle.model.specs.Bounded.{sum_below, one_if}
use Rattle.model.specs.Piece.{Shape, extent, cell, other}
use Rattle.model.specs.Strip.{Run, closing, runs_from, runs, strip_of, line_strips, strips_from}
use Rattle.model.specs.Cut.{CutLine, cut_line_of, total_length, lines_along, lines_of, unit_count}
use Rattle.model.specs.declared.Direction.{Direction}
use Rattle.model.specs.declared.Direction.TheVariants.{Horizontal, Vertical}

-- ── runs ──

-- the numbers in the runs of a list
abbrev run_total : List Run → ℕ
run_total [] = 0
run_total (r ∷ rs) = r.count + run_total rs

-- a run that ends is counted
closing_total : (i run : ℕ) (later : List Run) → run_total (closing i run later) ≡ run + run_total later
closing_total i zero later = omega arith
closing_total i (suc run) later = refl

-- one number read
total_step : (f : ℕ → Bool) (i left run rest : ℕ) (b : Bool) → ((run : ℕ) → run_total (runs_from f (suc i) left run) ≡ run + rest)
    → run_total (elim b as (λ _. List Run) [ true ↦ runs_from f (suc i) left (suc run) | false ↦ closing i run (runs_from f (suc i) left 0) ])
    ≡ run + (one_if b + rest)
total_step f i left run rest true h = h (suc run) ∙ omega arith
total_step f i left run rest false h = let e = h 0 in closing_total i run (runs_from f (suc i) left 0) ∙ omega arith

-- the runs from i on have the numbers pending and those that pass
runs_total_from : (f : ℕ → Bool) (i left run : ℕ) → run_total (runs_from f i left run) ≡ run + sum_below left (λ k. one_if (f (i + k)))
unfolding runs_from
runs_total_from f i zero run = closing_total i run []
runs_total_from f i (suc left) run =
    let rest : ℕ = sum_below left (λ k. one_if (f (suc i + k))) in
    let shifted : sum_below left (λ k. one_if (f (i + suc k))) ≡ rest =
    sum_agree left _ _ (λ k l. ap (λ (m : ℕ). one_if (f m)) (omega arith)) in
    let first : one_if (f (i + 0)) ≡ one_if (f i) = ap (λ (m : ℕ). one_if (f m)) (add-zero i) in
    let all = sum_first left (λ k. one_if (f (i + k))) in
    total_step f i left run rest (f i) (λ run. runs_total_from f (suc i) left run) ∙ omega arith

-- the runs of the numbers below n have as many as pass
runs_total : (f : ℕ → Bool) (n : ℕ) → run_total (runs f n) ≡ sum_below n (λ k. one_if (f k))
runs_total f n = runs_total_from f 0 n 0 ∙ zero-add _ ∙ sum_agree n _ _ (λ k l. ap (λ (m : ℕ). one_if (f m)) (omega arith))

-- ── lines ──

-- the lengths of two lists of lines together
pub total_append : (ls ms : List CutLine) → total_length (ls ++ ms) ≡ total_length ls + total_length ms
unfolding total_length
total_append [] ms = sym (zero-add (total_length ms))
total_append (l ∷ ls) ms = let e = total_append ls ms in omega arith

-- the lines of the runs of pixel line c
line_total : (d : Direction) (c : ℕ) (rs : List Run) → total_length (map (cut_line_of d) (map (strip_of c) rs)) ≡ run_total rs
unfolding total_length
line_total d c [] = refl
line_total d c (r ∷ rs) = let e = line_total d c rs in omega arith

-- the lines of the next pixel lines
from_total : (d : Direction) (s : Shape) (c left : ℕ)
    → total_length (map (cut_line_of d) (strips_from d s c left)) ≡ sum_below left (λ k. sum_below (extent d s) (λ a. one_if (cell d s a (c + k))))
unfolding strips_from total_length
from_total d s c zero = refl
from_total d s c (suc left) =
    let at : ℕ → ℕ = λ m. sum_below (extent d s) (λ a. one_if (cell d s a m)) in
    let here : total_length (map (cut_line_of d) (line_strips d s c)) ≡ at (c + 0) =
    line_total d c (runs (λ a. cell d s a c) (extent d s)) ∙ runs_total (λ a. cell d s a c) (extent d s) ∙ ap at (omega arith) in
    let later : total_length (map (cut_line_of d) (strips_from d s (suc c) left)) ≡ sum_below left (λ k. at (c + suc k)) =
    from_total d s (suc c) left ∙ sum_agree left _ _ (λ k l. ap at (omega arith)) in
    let all = sum_first left (λ k. at (c + k)) in
    ap total_length (map-append (cut_line_of d) (line_strips d s c) (strips_from d s (suc c) left))
    ∙ total_append (map (cut_line_of d) (line_strips d s c)) (map (cut_line_of d) (strips_from d s (suc c) left))
    ∙ omega arith

-- the lines of a set have as many pixels as the set has units
pub along_total : (d : Direction) (s : Shape) → total_length (lines_along d s) ≡ unit_count d s
unfolding unit_count
along_total d s =
    from_total d s 0 (extent (other d) s)
    ∙ sum_agree (extent (other d) s) _ _ (λ k l. ap (λ (m : ℕ). sum_below (extent d s) (λ a. one_if (cell d s a m))) (omega arith))

-- the lines of two sets
pub lines_total : (units : Direction → Shape)
    → total_length (lines_of units) ≡ unit_count Horizontal (units Horizontal) + unit_count Vertical (units Vertical)
lines_total units =
    total_append (lines_along Horizontal (units Horizontal)) (lines_along Vertical (units Vertical))
    ∙ ap₂ ◌+◌ (along_total Horizontal (units Horizontal)) (along_total Vertical (units Vertical))
