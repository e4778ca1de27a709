-- `nest::print_large` meets its contract: `print_run` answers no more bytes than it prints at most. Assumes nothing.
use Rattle.list_laws.proofs.Kit.{◌∙◌, sym, rules}
use Rattle.program_calls.proofs.Printing.{count_fits}
use Rattle.nest.proofs.print_large.Statement.{statement}
use Rattle.nest.proofs.print_large.Tie as tie

returns : tie.Need-returns
returns c =
    let at-print-run : tie.After-print_run = search in
    let run = at-print-run.print_run.ensures in
    λ n same. count_fits _ _ _ (sym same ∙ run.0) run.1.1.1

pub print_large_spec : {M : Type 1} → statement M
print_large_spec = tie.close (tie.spec
    (search rules) (search rules) (search rules) returns)
