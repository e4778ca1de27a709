-- `search_line_sums::add_line` meets its contract: the penalties themselves where the weight is 1. Assumes nothing.
use Rattle.list_laws.proofs.Kit.{subst, sym, ℕ, rules}
use Rattle.search_line_sums.specs.Added.{LineAdded}
use Rattle.search_line_sums.proofs.add_line.Statement.{statement}
use Rattle.search_line_sums.proofs.add_line.Tie as tie

returns-then-once : tie.Need-returns-then-once
returns-then-once c =
    let at-start : tie.Start = search in
    let at-then : tie.Then-once = search in
    let at-add-once : tie.After-add_once = search in
    let a = at-start.args in
    subst (λ (w : ℕ). LineAdded w a.low a.line.now a.sums.now at-add-once.add_once.new.sums)
    (sym at-then.if-once.true) at-add-once.add_once.ensures

pub add_line_spec : {M : Type 1} → statement M
add_line_spec =
    tie.close (tie.spec
    (λ c κs. search rules) (λ c. search rules) returns-then-once (λ c κs. search rules) (λ c. search rules) (λ c. search rules))
