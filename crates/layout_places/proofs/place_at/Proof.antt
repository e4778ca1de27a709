-- `layout_places::place_at` meets its contract: a placement stands in its entry (`place_of_entry`). Assumes nothing.
use Rattle.list_laws.proofs.Kit.{sym, rules}
use Rattle.layout_places.proofs.Places.{place_of_entry}
use Rattle.layout_places.proofs.place_at.Statement.{statement}
use Rattle.layout_places.proofs.place_at.Tie as tie

returns : tie.Need-returns
returns c =
    let at-start : tie.Start = search in
    rw c.before.before.turn_or_zero.ensures (sym (place_of_entry at-start.args.layout.now at-start.args.i))

pub place_at_spec : {M : Type 1} → statement M
place_at_spec =
    tie.close (tie.spec
    (search rules) (search rules) (search rules) (search rules) (search rules) (search rules) (search rules) (search rules) (search rules)
    (search rules) returns)
