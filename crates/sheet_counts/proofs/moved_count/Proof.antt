-- `moved_count`: each way's test says which clause of `moved` it is. Assumes nothing.
use Rattle.list_laws.proofs.Kit.{rules}
use Rattle.sheet_counts.proofs.moved_count.Statement.{statement}
use Rattle.sheet_counts.proofs.moved_count.Tie as tie

returns-then-off : tie.Need-returns-then-off
returns-then-off c = rw c.if-off.true

returns-in-OneMore : tie.Need-returns-in-OneMore
returns-in-OneMore c =
    let s : tie.Start = search in
    let at-if : tie.Else-off = search in
    rw (at-if.if-off.false, c.in-OneMore.is) c.one_more.ensures

returns-in-OneLess : tie.Need-returns-in-OneLess
returns-in-OneLess c =
    let s : tie.Start = search in
    let at-if : tie.Else-off = search in
    rw (at-if.if-off.false, c.in-OneLess.is) c.one_less.ensures

returns-in-OwnedBy : tie.Need-returns-in-OwnedBy
returns-in-OwnedBy c =
    let s : tie.Start = search in
    let at-if : tie.Else-off = search in
    rw (at-if.if-off.false, c.in-OwnedBy.is)

pub moved_count_spec : {M : Type 1} → statement M
moved_count_spec = tie.close (tie.spec
    returns-then-off (search rules) (search rules) (search rules) (search rules) (search rules) returns-in-OneMore returns-in-OneLess
    returns-in-OwnedBy)
