-- `search_line_sums::least_below` meets its contract: no sum is below the bound, or the least one is looked for. Assumes nothing.
use Rattle.list_laws.proofs.Kit.{◌∙◌, sym, rules}
use Rattle.search_line_sums.proofs.Scans.{scan_nothing}
use Rattle.search_line_sums.proofs.least_below.Statement.{statement}
use Rattle.search_line_sums.proofs.least_below.Tie as tie

returns-then-not-any_below : tie.Need-returns-then-not-any_below
returns-then-not-any_below c =
    let at-start : tie.Start = search in
    let at-any-below : tie.After-any_below = search in
    let a = at-start.args in
    scan_nothing a.sums.now a.bound (sym at-any-below.any_below.ensures ∙ c.if-not-any_below.true)

returns : tie.Need-returns
returns c = let at-least-of : tie.After-least_of = search in at-least-of.least_of.ensures

pub least_below_spec : {M : Type 1} → statement M
least_below_spec = tie.close (tie.spec
    (search rules) returns-then-not-any_below (search rules) returns)
