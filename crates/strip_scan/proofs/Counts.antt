-- How many strips there can be: no more than pixels of the box. Assumes nothing.
use Rattle.list_laws.proofs.Kit.{◌∙◌, ◌≡◌, refl, Bool, false, true, List, ◌*◌, ◌+◌, ◌≤◌, suc, zero, ℕ, mul_comm, mul-le-mul, suc-mul, arith, length}
use Rattle.list_laws.proofs.Kit.{length-append, length-map}
use Rattle.job_laws.proofs.Turned.{turned_area}
use Rattle.model.specs.Piece.{Shape, turned, extent, other, cell}
use Rattle.model.specs.Strip.{Run, closing, runs_from, strips_from, strips}
use Rattle.model.specs.declared.Turn.{Turn}
use Rattle.model.specs.declared.Direction.{Direction}
use Rattle.model.specs.declared.Direction.TheVariants.{Horizontal, Vertical}
use Rattle.piece_pixels.specs.Turned.{stored_by, shown_by, SmallPiece}
use Rattle.piece_pixels.specs.declared.TurnedPiece.{TurnedPiece}

-- a run that ends adds one at most
closing_few : (i run left : ℕ) (later : List Run) → length later ≤ left → length (closing i run later) ≤ suc left + run
closing_few i zero left later h = omega arith
closing_few i (suc run) left later h = omega arith

few_step : (f : ℕ → Bool) (i left run : ℕ) (b : Bool) → ((run : ℕ) → length (runs_from f (suc i) left run) ≤ left + run)
    → length {A = Run} (elim b as (λ _. List Run) [ true ↦ runs_from f (suc i) left (suc run) | false ↦ closing i run (runs_from f (suc i) left 0) ])
    ≤ suc left + run
few_step f i left run true h = let k = h (suc run) in omega arith
few_step f i left run false h = let k = h 0 in closing_few i run left (runs_from f (suc i) left 0) (omega arith)

-- there are no more runs than numbers
pub runs_few : (f : ℕ → Bool) (i left run : ℕ) → length (runs_from f i left run) ≤ left + run
unfolding runs_from
runs_few f i zero zero = omega arith
runs_few f i zero (suc run) = omega arith
runs_few f i (suc left) run = few_step f i left run (f i) (runs_few f (suc i) left)

-- there are no more strips than pixels in the lines
lines_few : (d : Direction) (s : Shape) (c left : ℕ) → length (strips_from d s c left) ≤ left * extent d s
unfolding strips_from
lines_few d s c zero = omega arith
lines_few d s c (suc left) =
    let f : ℕ → Bool = λ k. cell d s k c in
    let one = runs_few f 0 (extent d s) 0 in
    let rest = lines_few d s (suc c) left in
    simp (length-append, length-map) (omega (arith, suc-mul left (extent d s)))

-- a box has as many pixels along either direction
box_area : (d : Direction) (s : Shape) → extent (other d) s * extent d s ≡ s.columns * s.rows
box_area Horizontal s = mul_comm s.rows s.columns
box_area Vertical s = refl

-- there are no more strips of a turned shape than pixels of its box
pub strips_few : (d : Direction) (t : Turn) (s : Shape) → length (strips d (turned t s)) ≤ s.columns * s.rows
strips_few d t s =
    let e = box_area d (turned t s) ∙ turned_area t s in
    let h = lines_few d (turned t s) 0 (extent (other d) (turned t s)) in
    rw e at h

-- a piece has at most so many strips
pub piece_few : (d : Direction) (pixels : List ℕ) (p : TurnedPiece) → SmallPiece p → length (strips d (shown_by pixels p)) ≤ 65025
piece_few d pixels p s =
    let l : p.columns ≤ 255 = s.columns in
    let r : p.rows ≤ 255 = s.rows in
    let h : p.columns * p.rows ≤ 255 * 255 = mul-le-mul l r in
    let k = strips_few d p.turn (stored_by pixels p) in
    omega arith
