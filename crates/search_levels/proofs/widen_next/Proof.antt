-- `search_levels::widen_next` meets its contract: a copy of the level that takes over the level once more. Assumes nothing.
use Rattle.list_laws.proofs.Kit.{rules}
use Rattle.search_levels.proofs.Within.{next_from}
use Rattle.search_levels.proofs.widen_next.Statement.{statement}
use Rattle.search_levels.proofs.widen_next.Tie as tie

returns : tie.Need-returns
returns c =
    let at-start : tie.Start = search in
    let at-copy-words : tie.After-copy_words = search in
    let a = at-start.args in
    next_from a.ws.now _ _ a.from a.size a.s at-copy-words.copy_words.ensures c.before.before.or_within.ensures

pub widen_next_spec : {M : Type 1} → statement M
widen_next_spec = tie.close (tie.spec
    (search rules) (search rules) (search rules) (search rules) returns)
