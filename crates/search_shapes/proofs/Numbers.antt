-- The numbers of shapes: each piece in each turn has its own, and twice the strips of one are at most the pixels of its box and 255
-- more. Assumes nothing.
use Rattle.list_laws.proofs.Kit.{◌≡◌, refl, ⊎_elim, List, ◌%◌, ◌*◌, ◌+◌, ◌/◌, ◌<◌, ◌≤◌, suc, ℕ, add-one, mul-le-mul_right, suc-mul, arith, length}
use Rattle.model.specs.Piece.{Shape, extent, other, side_bound}
use Rattle.model.specs.Strip.{strips}
use Rattle.model.specs.Layout.{Job, turned_piece}
use Rattle.model.specs.Lent.{Lent, job_of, pixel_start, entry_area, entry_columns, entry_rows}
use Rattle.model.specs.declared.Direction.{Direction}
use Rattle.model.specs.declared.Turn.{Turn}
use Rattle.model.specs.declared.Turn.TheVariants.{Zero, Quarter, Half, ThreeQuarters}
use Rattle.list_laws.proofs.Numbers.{below_or}
use Rattle.job_laws.proofs.Turned.{turned_extent}
use Rattle.job_laws.proofs.Starts.{start_end}
use Rattle.pair_measure.proofs.Rooms.{strips_half}
use Rattle.descent_laws.specs.Trials.{turn_number}
use Rattle.search_shapes.specs.Shapes.{numbered_turn, shape_number, numbered_shape}

-- a turn's number is below 4
pub turn_below : (t : Turn) → turn_number t < 4
turn_below Zero = omega arith
turn_below Quarter = omega arith
turn_below Half = omega arith
turn_below ThreeQuarters = omega arith

-- the turn of a turn's number
turn_back : (t : Turn) → numbered_turn (turn_number t) ≡ t
turn_back Zero = refl
turn_back Quarter = refl
turn_back Half = refl
turn_back ThreeQuarters = refl

-- the shape of a piece's number in a turn
pub number_back : (j : Job) (i : ℕ) (t : Turn) → numbered_shape j (shape_number i t) ≡ turned_piece j i t
number_back j i t =
    let b : turn_number t < 4 = turn_below t in
    let p : (i * 4 + turn_number t) / 4 ≡ i = omega arith in
    let q : (i * 4 + turn_number t) % 4 ≡ turn_number t = omega arith in
    rw (p, q, turn_back t)

-- the pixels of the shapes with numbers below k: four times those of the pieces passed, and those of the present piece once for each turn passed
abbrev pub most : List (List ℕ) → ℕ → ℕ → ℕ
most table i n = 4 * pixel_start table i + n * entry_area table i

abbrev pub reached : List (List ℕ) → ℕ → ℕ
reached table k = most table (k / 4) (k % 4)

start_next : (table : List (List ℕ)) (i : ℕ) → pixel_start table (i + 1) ≡ pixel_start table i + entry_area table i
unfolding pixel_start
start_next table i = rw add-one

-- one more shape
pub reached_next : (table : List (List ℕ)) (k : ℕ) → reached table k + entry_area table (k / 4) ≡ reached table (k + 1)
reached_next table k =
    let i = k / 4 in
    let n = k % 4 in
    let area = entry_area table i in
    ⊎_elim
    (λ (h : n < 3).
    let e : (k + 1) / 4 ≡ i = omega arith in
    let f : (k + 1) % 4 ≡ n + 1 = omega arith in
    rw (e, f) (rw add-one (omega (arith, suc-mul n area))))
    (λ (h : 3 ≤ n).
    let e : (k + 1) / 4 ≡ i + 1 = omega arith in
    let f : (k + 1) % 4 ≡ 0 = omega arith in
    let g : n ≡ 3 = omega arith in
    rw (e, f, g) (omega (arith, start_next table i)))
    (below_or n 3)

-- the shapes of a job have at most four times as many pixels as its boxes
pub reached_few : (table : List (List ℕ)) (k n : ℕ) → k < n * 4 → reached table k + entry_area table (k / 4) ≤ 4 * pixel_start table n
reached_few table k n h =
    let i = k / 4 in
    let area = entry_area table i in
    let b = start_end table i n (omega arith) in
    let m : suc (k % 4) * area ≤ 4 * area = mul-le-mul_right area (omega arith) in
    omega (arith, suc-mul (k % 4) area)

-- twice the strips of a shape are at most the pixels of its box and one for each line
pub shape_half : (d : Direction) (l : Lent) (k : ℕ) → entry_columns l.table (k / 4) ≤ side_bound → entry_rows l.table (k / 4) ≤ side_bound
    → 2 * length (strips d (numbered_shape (job_of l) k)) ≤ entry_area l.table (k / 4) + 255
unfolding job_of
shape_half d l k c r =
    let s : Shape = ((job_of l).piece (k / 4)).shape in
    omega (arith, strips_half d (numbered_turn (k % 4)) s, turned_extent (other d) (numbered_turn (k % 4)) s side_bound c r)

-- a shape's sides are within document 01's bound where its entry's are
pub shape_small : (d : Direction) (l : Lent) (k : ℕ) → entry_columns l.table (k / 4) ≤ side_bound → entry_rows l.table (k / 4) ≤ side_bound
    → extent d (numbered_shape (job_of l) k) ≤ side_bound
unfolding job_of
shape_small d l k c r = turned_extent d (numbered_turn (k % 4)) ((job_of l).piece (k / 4)).shape side_bound c r
