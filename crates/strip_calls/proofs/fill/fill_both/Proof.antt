-- `strip_calls::fill::fill_both` meets its contract: each store and its starts are filled over the front. Assumes nothing.
use Rattle.model.specs.Lent.{lent_by, job_of}
use Rattle.strip_calls.proofs.Outcomes.{stores_filled}
use Rattle.list_laws.proofs.Kit.{rules}
use Rattle.strip_calls.proofs.fill.fill_both.Statement.{statement}
use Rattle.strip_calls.proofs.fill.fill_both.Tie as tie

returns : tie.Need-returns
returns c =
    let at-fill2 : tie.After-fill-2 = search in
    let at_fill : tie.After-fill = search in
    let at-start : tie.Start = search in
    stores_filled (job_of (lent_by at-start.args.size at-start.args.table.now at-start.args.pixels.now)) at-start.args.turns.now
    at-start.requires.1 at_fill.fill.ensures at-fill2.fill-2.ensures

pub fill_both_spec : {M : Type 1} → statement M
fill_both_spec =
    tie.close (tie.spec
    (λ c κs. search rules) (λ c κs. search rules) (search rules) (search rules) (search rules) (search rules) returns)
