-- `layout_length_calls::left_end` meets its contract by what it is told of the placement. Assumes nothing.
use Rattle.list_laws.proofs.Kit.{rules}
use Rattle.layout_length_calls.proofs.left_end.Statement.{statement}
use Rattle.layout_length_calls.proofs.left_end.Tie as tie

returns : tie.Need-returns
returns c = let at-place-at : tie.After-place_at = search in rw at-place-at.place_at.ensures

pub left_end_spec : {M : Type 1} → statement M
left_end_spec = tie.close (tie.spec
    (search rules) (search rules) returns)
