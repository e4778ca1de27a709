-- `search_marks::level_of` meets its contract: the zeros that lead tell the highest set bit. Assumes nothing.
use Rattle.list_laws.proofs.Kit.{arith}
use lib.Count.{leading_le}
use Rattle.search_marks.proofs.Adding.{level_at}
use Rattle.search_marks.proofs.level_of.Statement.{statement}
use Rattle.search_marks.proofs.level_of.Tie as tie

overflow_cast-result : tie.Need-overflow_cast-result
overflow_cast-result c = omega (arith, leading_le 64 c.args.count)

overflow_sub-result : tie.Need-overflow_sub-result
overflow_sub-result c = (level_at c.args.count (omega arith) (omega arith)).0

returns : tie.Need-returns
returns c = (level_at c.args.count (omega arith) (omega arith)).1

pub level_of_spec : {M : Type 1} → statement M
level_of_spec = tie.close (tie.spec
    overflow_cast-result overflow_sub-result returns)
