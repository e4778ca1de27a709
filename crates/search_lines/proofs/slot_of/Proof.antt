-- `search_lines::slot_of` meets its contract: a remainder is below its divisor. Assumes nothing.
use Rattle.list_laws.proofs.Kit.{mod-lt, rules}
use Rattle.search_lines.proofs.slot_of.Statement.{statement}
use Rattle.search_lines.proofs.slot_of.Tie as tie

returns : tie.Need-returns
returns c = let e : tie.Start = search in mod-lt _ e.requires.1

pub slot_of_spec : {M : Type 1} → statement M
slot_of_spec = tie.close (tie.spec
    (search rules) (search rules) (search rules) (search rules) (search rules) (search rules) (search rules) returns)
