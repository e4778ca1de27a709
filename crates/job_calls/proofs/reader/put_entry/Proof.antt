-- `job_calls::reader::put_entry`: a store past the end changes nothing. Assumes nothing.
use Rattle.list_laws.proofs.Kit.{sym, set_out, rules}
use Rattle.job_calls.proofs.reader.put_entry.Statement.{statement}
use Rattle.job_calls.proofs.reader.put_entry.Tie as tie

returns-then-table-i : tie.Need-returns-then-table-i
returns-then-table-i c = sym (set_out c.before.args.table.now _ _ c.if-table-i.true)

pub put_entry_spec : {M : Type 1} → statement M
put_entry_spec = tie.close (tie.spec
    returns-then-table-i (search rules) (search rules) (search rules) (search rules))
