-- A turned box has the sides of the box: half of the turns exchange them. Assumes nothing.
use Rattle.list_laws.proofs.Kit.{◌≡◌, refl, ◌≤◌, ◌*◌, ℕ, mul_comm}
use Rattle.model.specs.Piece.{Shape, turned, extent}
use Rattle.model.specs.declared.Turn.{Turn}
use Rattle.model.specs.declared.Turn.TheVariants.{Zero, Quarter, Half, ThreeQuarters}
use Rattle.model.specs.declared.Direction.{Direction}
use Rattle.model.specs.declared.Direction.TheVariants.{Horizontal, Vertical}

-- what holds of both sides of a box holds of either side in every turn
pub turned_side_lem : (P : ℕ → Type 0) (d : Direction) (t : Turn) (s : Shape) → P s.columns → P s.rows → P (extent d (turned t s))
turned_side_lem P Horizontal Zero s c r = c
turned_side_lem P Horizontal Quarter s c r = r
turned_side_lem P Horizontal Half s c r = c
turned_side_lem P Horizontal ThreeQuarters s c r = r
turned_side_lem P Vertical Zero s c r = r
turned_side_lem P Vertical Quarter s c r = c
turned_side_lem P Vertical Half s c r = r
turned_side_lem P Vertical ThreeQuarters s c r = c

-- sides of at most b stay so
pub turned_extent : (d : Direction) (t : Turn) (s : Shape) (b : ℕ) → s.columns ≤ b → s.rows ≤ b → extent d (turned t s) ≤ b
turned_extent d t s b c r = turned_side_lem (λ n. n ≤ b) d t s c r

-- a turn keeps the number of the box's pixels
pub turned_area : (t : Turn) (s : Shape) → (turned t s).columns * (turned t s).rows ≡ s.columns * s.rows
turned_area Zero s = refl
turned_area Quarter s = mul_comm s.rows s.columns
turned_area Half s = refl
turned_area ThreeQuarters s = mul_comm s.rows s.columns
