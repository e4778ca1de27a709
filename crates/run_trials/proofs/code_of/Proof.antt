-- `run_trials::code_of` meets its contract: the number stands for the trial that it is made from. Assumes nothing.
use Rattle.list_laws.proofs.Kit.{rules}
use Rattle.run_trials.proofs.Listing.{code_back}
use Rattle.run_trials.proofs.code_of.Statement.{statement}
use Rattle.run_trials.proofs.code_of.Tie as tie

returns : tie.Need-returns
returns c =
    let at-start : tie.Start = search in
    code_back at-start.args.piece at-start.args.turn at-start.args.direction at-start.requires.1.0 at-start.requires.1.1

pub code_of_spec : {M : Type 1} → statement M
code_of_spec = tie.close (tie.spec
    (search rules) (search rules) (search rules) (search rules) (search rules) returns)
