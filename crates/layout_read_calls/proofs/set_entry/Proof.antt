-- `layout_read_calls::set_entry` meets its contract: a store past the end changes nothing. Assumes nothing.
use Rattle.list_laws.proofs.Kit.{sym, set_out, rules}
use Rattle.layout_read_calls.proofs.set_entry.Statement.{statement}
use Rattle.layout_read_calls.proofs.set_entry.Tie as tie

returns-then-i-layout : tie.Need-returns-then-i-layout
returns-then-i-layout c = rw c.entry_of.ensures

returns-else-i-layout : tie.Need-returns-else-i-layout
returns-else-i-layout c = sym (set_out _ _ _ c.if-i-layout.false)

pub set_entry_spec : {M : Type 1} → statement M
set_entry_spec = tie.close (tie.spec
    (search rules) (search rules) (search rules) (search rules) returns-then-i-layout returns-else-i-layout)
