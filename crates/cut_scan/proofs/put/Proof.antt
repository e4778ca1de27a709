-- `put`: a store past the end does nothing. Assumes nothing.
use Rattle.list_laws.proofs.Kit.{sym, set_out, rules}
use Rattle.cut_scan.proofs.put.Statement.{statement}
use Rattle.cut_scan.proofs.put.Tie as tie

returns-else-at-lines : tie.Need-returns-else-at-lines
returns-else-at-lines c = sym (set_out _ _ _ c.if-at-lines.false)

pub put_spec : {M : Type 1} → statement M
put_spec = tie.close (tie.spec
    (search rules) (search rules) (search rules) (search rules) returns-else-at-lines)
