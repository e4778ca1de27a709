-- `search_columns::count_on` meets its contract. Assumes nothing.
use Rattle.list_laws.proofs.Kit.{pos_of_ne-zero, rules}
use Rattle.search_columns.proofs.Counts.{count_more}
use Rattle.search_columns.proofs.count_on.Statement.{statement}
use Rattle.search_columns.proofs.count_on.Tie as tie

returns : tie.Need-returns
returns c = count_more c.before.args.v c.before.args.n (pos_of_ne-zero c.if-v-eq0.false)

pub count_on_spec : {M : Type 1} → statement M
count_on_spec = tie.close (tie.spec
    (λ c. search rules) (search rules) returns)
