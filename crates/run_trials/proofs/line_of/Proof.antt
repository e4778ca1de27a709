-- `run_trials::line_of` meets its contract: the line goes through the piece's present corner. Assumes nothing.
use Rattle.list_laws.proofs.Kit.{rules}
use Rattle.run_trials.proofs.line_of.Statement.{statement}
use Rattle.run_trials.proofs.line_of.Tie as tie

returns-in-Horizontal : tie.Need-returns-in-Horizontal
returns-in-Horizontal c =
    let at-place-at : tie.After-place_at-place = search in
    rw (at-place-at.place_at-place.ensures, c.in-Horizontal.is)

returns-in-Vertical : tie.Need-returns-in-Vertical
returns-in-Vertical c =
    let at-place-at : tie.After-place_at-place = search in
    rw (at-place-at.place_at-place.ensures, c.in-Vertical.is)

pub line_of_spec : {M : Type 1} → statement M
line_of_spec = tie.close (tie.spec
    (search rules) (search rules) (search rules) returns-in-Horizontal returns-in-Vertical)
