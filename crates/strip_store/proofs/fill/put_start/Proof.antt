-- `strip_calls::fill::put_start` meets its contract: a store past the end does nothing. Assumes nothing.
use Rattle.list_laws.proofs.Kit.{sym, set_out, rules}
use Rattle.strip_store.proofs.fill.put_start.Statement.{statement}
use Rattle.strip_store.proofs.fill.put_start.Tie as tie

returns-else-i-starts : tie.Need-returns-else-i-starts
returns-else-i-starts c = sym (set_out _ _ _ c.if-i-starts.false)

pub put_start_spec : {M : Type 1} → statement M
put_start_spec = tie.close (tie.spec
    (search rules) (search rules) (search rules) (search rules) (search rules) returns-else-i-starts)
