-- `search_words::or_strip` meets its contract: n marks from the place on and n that end with the strip cover it, since it has at most 2 n
-- pixels; where it has n, the first are all. Assumes nothing.
use Rattle.list_laws.proofs.Kit.{arith, rules}
use Rattle.search_words.proofs.Flats.{strip_one, strip_from}
use Rattle.search_words.proofs.or_strip.Statement.{statement}
use Rattle.search_words.proofs.or_strip.Tie as tie

or_flat-requires : tie.Need-or_flat-requires
or_flat-requires c κs =
    let at-start : tie.Start = search in
    (omega arith, at-start.requires.1)

returns-then-count-n : tie.Need-returns-then-count-n
returns-then-count-n c =
    let at-start : tie.Start = search in
    let at-or-flat : tie.After-or_flat = search in
    let at-then1 : tie.Then-count-n = search in
    let a = at-start.args in
    strip_one a.to.now _ a.wide.now a.n a.place a.count at-then1.if-count-n.true at-or-flat.or_flat.ensures

or_flat-requires-2 : tie.Need-or_flat-requires-2
or_flat-requires-2 c κs =
    let at-start : tie.Start = search in
    (omega arith, at-start.requires.1)

returns : tie.Need-returns
returns c =
    let at-start : tie.Start = search in
    let at-or-flat : tie.After-or_flat = search in
    let a = at-start.args in
    strip_from a.to.now _ _ a.wide.now a.n a.place a.count (omega arith) (omega arith) at-or-flat.or_flat.ensures
    c.before.before.or_flat-2.ensures

pub or_strip_spec : {M : Type 1} → statement M
or_strip_spec = tie.close (tie.spec
    or_flat-requires (search rules) returns-then-count-n (search rules) (search rules) or_flat-requires-2 (search rules) returns)
