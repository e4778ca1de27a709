-- How many strips two pieces of a job have: no two strips of a line touch, so twice the strips of a box are at most its pixels and one
-- more for each line. Assumes nothing.
use Rattle.list_laws.proofs.Kit.{◌≡◌, refl, ◌*◌, ◌+◌, ◌≤◌, ℕ, mul_comm, mul-suc, arith, length}
use Rattle.strip_laws.proofs.Halves.{lines_half}
use Rattle.model.specs.Piece.{Shape, turned, extent, other}
use Rattle.model.specs.Strip.{strips}
use Rattle.model.specs.declared.Turn.{Turn}
use Rattle.model.specs.declared.Turn.TheVariants.{Zero, Quarter, Half, ThreeQuarters}
use Rattle.model.specs.declared.Direction.{Direction}
use Rattle.model.specs.declared.Direction.TheVariants.{Horizontal, Vertical}

-- the lines of a turned box have its pixels
pub turned_lines : (d : Direction) (t : Turn) (s : Shape) → extent (other d) (turned t s) * extent d (turned t s) ≡ s.columns * s.rows
turned_lines Horizontal Zero s = mul_comm s.rows s.columns
turned_lines Horizontal Quarter s = refl
turned_lines Horizontal Half s = mul_comm s.rows s.columns
turned_lines Horizontal ThreeQuarters s = refl
turned_lines Vertical Zero s = refl
turned_lines Vertical Quarter s = mul_comm s.rows s.columns
turned_lines Vertical Half s = refl
turned_lines Vertical ThreeQuarters s = mul_comm s.rows s.columns

-- twice the strips of a turned shape are at most the pixels of its box and one for each line
pub strips_half : (d : Direction) (t : Turn) (s : Shape) → 2 * length (strips d (turned t s)) ≤ s.columns * s.rows + extent (other d) (turned t s)
strips_half d t s =
    let c : ℕ = extent (other d) (turned t s) in
    let a : ℕ = extent d (turned t s) in
    omega (arith, turned_lines d t s, lines_half d (turned t s) 0 c, mul-suc c a)
