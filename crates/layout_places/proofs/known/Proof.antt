-- `layout_places::known` meets its contract: a piece number past the last fails the test, an entry that the table has not allows no turn,
-- and for another the table says which turns are allowed. Assumes nothing.
use Rattle.list_laws.proofs.Kit.{sym, [], get_or-eq_default, rules, le-ltb, lt-ltb}
use Rattle.model.specs.Lent.{job_of}
use Rattle.layout_places.proofs.Places.{none_allowed}
use Rattle.layout_places.proofs.known.Statement.{statement}
use Rattle.layout_places.proofs.known.Tie as tie

returns-then-size-i : tie.Need-returns-then-size-i
returns-then-size-i c = λ pixels. rw (le-ltb _ _ c.if-size-i.true)

returns-then-table-i : tie.Need-returns-then-table-i
unfolding job_of
returns-then-table-i c = λ pixels.
    let start : tie.Start = search in
    rw (lt-ltb _ _ c.before.if-size-i.false, get_or-eq_default start.args.table.now [] c.if-table-i.true)
    (sym (none_allowed start.args.turn))

returns : tie.Need-returns
unfolding job_of
returns c = λ pixels.
    let start : tie.Start = search in
    let first : tie.Else-size-i = search in
    rw (lt-ltb _ _ first.if-size-i.false) (c.allowed.ensures start.args.size pixels)

pub known_spec : {M : Type 1} → statement M
known_spec = tie.close (tie.spec
    returns-then-size-i returns-then-table-i (search rules) returns)
