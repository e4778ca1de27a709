-- `nest::print_sized` meets its contract by what it calls. Assumes nothing.
use Rattle.list_laws.proofs.Kit.{rules}
use Rattle.nest.proofs.print_sized.Statement.{statement}
use Rattle.nest.proofs.print_sized.Tie as tie

returns-then-input-lt-SMALL_INPUT : tie.Need-returns-then-input-lt-SMALL_INPUT
returns-then-input-lt-SMALL_INPUT c = let printed : tie.After-print_small = search in printed.print_small.ensures

returns : tie.Need-returns
returns c = let printed : tie.After-print_large = search in printed.print_large.ensures

pub print_sized_spec : {M : Type 1} → statement M
print_sized_spec = tie.close (tie.spec
    (search rules) (search rules) returns-then-input-lt-SMALL_INPUT (search rules) (search rules) returns)
