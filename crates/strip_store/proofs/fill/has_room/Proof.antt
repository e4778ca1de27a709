-- `strip_calls::fill::has_room` meets its contract: filling no store tells how many strips are needed. Assumes nothing.
use Rattle.model.specs.Lent.{lent_by, job_of}
use Rattle.strip_store.proofs.Filling.{no_room, room_by_starts}
use Rattle.list_laws.proofs.Kit.{rules}
use Rattle.strip_store.proofs.fill.has_room.Statement.{statement}
use Rattle.strip_store.proofs.fill.has_room.Tie as tie

returns-then-room-needed : tie.Need-returns-then-room-needed
returns-then-room-needed c =
    let at_fill : tie.After-fill-needed = search in
    let at-start : tie.Start = search in
    let a = at-start.args in
    no_room a.direction (job_of (lent_by a.size a.table.now a.pixels.now)) a.turns.now a.room at_fill.fill-needed.ensures.all c.if-room-needed.true

returns : tie.Need-returns
unfolding job_of
returns c =
    let at_fill : tie.After-fill-needed = search in
    let at-start : tie.Start = search in
    let a = at-start.args in
    room_by_starts a.direction (job_of (lent_by a.size a.table.now a.pixels.now)) a.turns.now a.room at_fill.fill-needed.ensures.all
    c.if-room-needed.false

pub has_room_spec : {M : Type 1} → statement M
has_room_spec = tie.close (tie.spec
    (search rules) (search rules) (search rules) (search rules) (λ c κs. search rules) returns-then-room-needed returns)
