-- `strip_scan::compare::stands_at` meets its contract: past the end of the store no strip stands. Assumes nothing.
use Rattle.list_laws.proofs.Kit.{sym, rules}
use Rattle.strip_scan.proofs.Comparing.{none_there}
use Rattle.strip_scan.proofs.compare.stands_at.Statement.{statement}
use Rattle.strip_scan.proofs.compare.stands_at.Tie as tie

returns : tie.Need-returns
returns c = let a = c.before.args in sym (none_there (record { line = a.line; first = a.first; count = a.count }) a.store.now a.at c.if-at-store.false)

pub stands_at_spec : {M : Type 1} → statement M
stands_at_spec = tie.close (tie.spec
    (search rules) (search rules) (search rules) (λ c. search rules) returns)
