-- `search_marks::power` meets its contract: nothing is shifted out. Assumes nothing.
use Rattle.list_laws.proofs.Kit.{arith, rules}
use Rattle.search_marks.proofs.Adding.{power_of}
use Rattle.search_marks.proofs.power.Statement.{statement}
use Rattle.search_marks.proofs.power.Tie as tie

returns : tie.Need-returns
returns c = power_of c.args.k (omega arith)

pub power_spec : {M : Type 1} → statement M
power_spec = tie.close (tie.spec
    (search rules) returns)
