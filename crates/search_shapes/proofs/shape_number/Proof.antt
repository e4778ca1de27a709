-- `search_shapes::shape_number` meets its contract: a turn's number is below 4. Assumes nothing.
use Rattle.list_laws.proofs.Kit.{arith, rules}
use Rattle.search_shapes.proofs.Numbers.{turn_below}
use Rattle.search_shapes.proofs.shape_number.Statement.{statement}
use Rattle.search_shapes.proofs.shape_number.Tie as tie

overflow_add-result : tie.Need-overflow_add-result
overflow_add-result c = let e = c.turn_number.ensures in let b = turn_below c.before.args.turn in omega arith

returns : tie.Need-returns
returns c = let e = c.turn_number.ensures in let b = turn_below c.before.args.turn in (omega arith, omega arith)

pub shape_number_spec : {M : Type 1} → statement M
shape_number_spec = tie.close (tie.spec
    (search rules) (search rules) overflow_add-result returns)
