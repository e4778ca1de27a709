-- `strip_scan::put::put` meets its contract: a store past the end does nothing. Assumes nothing.
use Rattle.list_laws.proofs.Kit.{sym, set_out, rules}
use Rattle.strip_scan.proofs.put.put.Statement.{statement}
use Rattle.strip_scan.proofs.put.put.Tie as tie

returns-else-at-store : tie.Need-returns-else-at-store
returns-else-at-store c = sym (set_out _ _ _ c.if-at-store.false)

pub put_spec : {M : Type 1} → statement M
put_spec =
    tie.close (tie.spec
    (search rules) (search rules) (search rules) (search rules) (search rules) (search rules) (search rules) returns-else-at-store)
