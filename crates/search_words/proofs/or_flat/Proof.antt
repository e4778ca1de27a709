-- `search_words::or_flat` meets its contract: it is the row of all words, and past it nothing is moved. Assumes nothing.
use Rattle.list_laws.proofs.Kit.{rules}
use Rattle.search_words.proofs.Flats.{flat_from_row}
use Rattle.search_words.proofs.or_flat.Statement.{statement}
use Rattle.search_words.proofs.or_flat.Tie as tie

returns : tie.Need-returns
returns c =
    let at-start : tie.Start = search in
    let a = at-start.args in
    flat_from_row a.to.now a.from.now a.s _ at-start.requires.1 c.before.before.or_row.ensures

pub or_flat_spec : {M : Type 1} → statement M
or_flat_spec = tie.close (tie.spec
    (search rules) (search rules) (search rules) returns)
