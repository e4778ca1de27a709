-- `piece_table::area_of`: two sides of at most 255 have a product of at most 255 × 255. Assumes nothing.
use Rattle.list_laws.proofs.Kit.{ap₂, ◌*◌, ◌≤◌, ℕ, mul-le-mul, arith, rules}
use Rattle.piece_table.proofs.area_of.Statement.{statement}
use Rattle.piece_table.proofs.area_of.Tie as tie

overflow_mul-result : tie.Need-overflow_mul-result
overflow_mul-result c =
    let m : c.before.columns_of.result * c.rows_of.result ≤ 255 * 255 =
    mul-le-mul c.before.columns_of.ensures.1 c.rows_of.ensures.1 in
    omega arith

returns : tie.Need-returns
returns c = (
  ap₂ (λ (l w : ℕ). l * w) c.before.columns_of.ensures.0 c.rows_of.ensures.0,
  mul-le-mul c.before.columns_of.ensures.1 c.rows_of.ensures.1,
)

pub area_of_spec : {M : Type 1} → statement M
area_of_spec = tie.close (tie.spec
    (search rules) (search rules) overflow_mul-result returns)
