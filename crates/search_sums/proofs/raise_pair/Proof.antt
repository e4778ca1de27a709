-- `search_sums::raise_pair` meets its contract, test by test. Assumes nothing.
use Rattle.search_sums.proofs.Rising.{raised_none, raised_more, raised_full}
use Rattle.list_laws.proofs.Kit.{rules}
use Rattle.search_sums.proofs.raise_pair.Statement.{statement}
use Rattle.search_sums.proofs.raise_pair.Tie as tie

returns-then-penalty-eq0 : tie.Need-returns-then-penalty-eq0
returns-then-penalty-eq0 c = raised_none _ _ _ c.if-penalty-eq0.true

returns-then-below : tie.Need-returns-then-below
returns-then-below c =
    let at-else1 : tie.Else-penalty-eq0 = search in
    raised_more _ _ _ at-else1.if-penalty-eq0.false c.before.if-below.true

returns-else-below : tie.Need-returns-else-below
returns-else-below c = raised_full _ _ _ c.before.before.if-penalty-eq0.false c.if-below.false

pub raise_pair_spec : {M : Type 1} → statement M
raise_pair_spec =
    tie.close (tie.spec
    returns-then-penalty-eq0 (search rules) (search rules) (search rules) (search rules) (search rules) (search rules) (search rules)
    returns-then-below returns-else-below)
