-- `pair_nofit_calls::is_own`: the comparison ends at the stretch's end exactly where the stretch is the piece's. Assumes nothing.
use Rattle.list_laws.proofs.Kit.{rules}
use Rattle.model.specs.Strip.{strips}
use Rattle.model.specs.Layout.{turned_piece}
use Rattle.model.specs.Lent.{lent_by, job_of}
use Rattle.model.specs.Calls.{stretch_well}
use Rattle.pair_nofit_calls.proofs.Owning.{none_own, some_own}
use Rattle.pair_nofit_calls.proofs.is_own.Statement.{statement}
use Rattle.pair_nofit_calls.proofs.is_own.Tie as tie

returns-in_default : tie.Need-returns-in_default
unfolding stretch_well
returns-in_default c = λ size.
    let at-start : tie.Start = search in
    let a = at-start.args in
    none_own (strips a.direction (turned_piece (job_of (lent_by size a.table.now a.pixels.now)) a.i a.turn)) a.stretch.now
    (c.in_default.ensures size)

returns : tie.Need-returns
unfolding stretch_well
returns c = λ size.
    let at-compare-piece : tie.After-compare_piece = search in
    let at-start : tie.Start = search in
    let a = at-start.args in
    some_own (strips a.direction (turned_piece (job_of (lent_by size a.table.now a.pixels.now)) a.i a.turn)) a.stretch.now _
    (c.in-Some.ensures size)

pub is_own_spec : {M : Type 1} → statement M
is_own_spec = tie.close (tie.spec
    (search rules) (search rules) (search rules) (search rules) returns-in_default returns)
