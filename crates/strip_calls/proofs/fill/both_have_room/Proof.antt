-- `strip_calls::fill::both_have_room` meets its contract: one store after the other. Assumes nothing.
use Rattle.list_laws.proofs.Kit.{◌∙◌, ap, ap₂, sym, ◌&&◌, rules}
use Rattle.model.specs.Lent.{lent_by, job_of}
use Rattle.model.specs.declared.Direction.TheVariants.{Vertical}
use Rattle.strip_store.specs.Rooms.{store_fits}
use Rattle.strip_calls.proofs.fill.both_have_room.Statement.{statement}
use Rattle.strip_calls.proofs.fill.both_have_room.Tie as tie

returns-then-not-has_room : tie.Need-returns-then-not-has_room
returns-then-not-has_room c =
    let at-start : tie.Start = search in
    let a = at-start.args in
    ap (λ b. b && store_fits Vertical (job_of (lent_by a.size a.table.now a.pixels.now)) a.turns.now a.columns)
    (sym c.if-not-has_room.true ∙ c.has_room.ensures)

returns : tie.Need-returns
returns c = ap₂ ◌&&◌ (sym c.if-not-has_room.false ∙ c.has_room.ensures) c.has_room-2.ensures

pub both_have_room_spec : {M : Type 1} → statement M
both_have_room_spec = tie.close (tie.spec
    (λ c κs. search rules) returns-then-not-has_room (λ c κs. search rules) returns)
