-- `layout_length_calls::right_end` meets its contract by what it is told of the placement and the turned box. Assumes nothing.
use Rattle.list_laws.proofs.Kit.{rules}
use Rattle.layout_length_calls.proofs.right_end.Statement.{statement}
use Rattle.layout_length_calls.proofs.right_end.Tie as tie

returns : tie.Need-returns
returns c = λ size pixels.
    let at-place-at : tie.After-place_at-place = search in
    rw (c.turned_sides-sides.ensures.0 size pixels, at-place-at.place_at-place.ensures)

pub right_end_spec : {M : Type 1} → statement M
right_end_spec = tie.close (tie.spec
    (search rules) (search rules) (search rules) (search rules) returns)
