-- `grid_of`: each direction's numbers are the definition's. Assumes nothing.
use Rattle.list_laws.proofs.Kit.{rules}
use Rattle.cut_list.proofs.grid_of.Statement.{statement}
use Rattle.cut_list.proofs.grid_of.Tie as tie

returns-in-Horizontal : tie.Need-returns-in-Horizontal
returns-in-Horizontal c = search rules

returns-in-Vertical : tie.Need-returns-in-Vertical
returns-in-Vertical c = search rules

pub grid_of_spec : {M : Type 1} → statement M
grid_of_spec = tie.close (tie.spec
    (search rules) (search rules) returns-in-Horizontal returns-in-Vertical)
