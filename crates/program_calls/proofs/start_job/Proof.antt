-- `program_calls::start_job` meets its contract: the start layout of all pieces is valid, so that the start from it is given. Assumes nothing.
use Rattle.list_laws.proofs.Kit.{◌∙◌, ◌≡◌, ap, rules}
use Rattle.model.specs.Buffer.{entries_of}
use Rattle.model.specs.Start.{start_of_all, program_start}
use Rattle.model.specs.Refusal.{given}
use Rattle.model.specs.Lent.{Lent, lent_by, job_of}
use Rattle.model.specs.Calls.{start_call, layout_after}
use Rattle.descent_laws.proofs.Lent.{lent_start_of_all_valid}
use Rattle.call_laws.proofs.Texts.{start_taken}
use Rattle.layout_places.proofs.Fitting.{fitting}
use Rattle.program_calls.proofs.start_job.Statement.{statement}
use Rattle.program_calls.proofs.start_job.Tie as tie

start_of_all-requires : tie.Need-start_of_all-requires
start_of_all-requires c κs =
    let at-start : tie.Start = search in
    let a = at-start.args in
    (fitting a.size a.table.now a.pixels.now at-start.requires.0, at-start.requires.1)

returns : tie.Need-returns
returns c =
    let at-start : tie.Start = search in
    let at_all : tie.After-start_of_all = search in
    let at-given : tie.After-start = search in
    let a = at-start.args in
    let l : Lent = lent_by a.size a.table.now a.pixels.now in
    let all : at_all.start_of_all.new.layout ≡ entries_of (start_of_all (job_of l)) = at_all.start_of_all.ensures a.pixels.now in
    let o : start_call l at_all.start_of_all.new.layout ≡ given (program_start (job_of l)) =
    rw all (start_taken l at-start.requires.0 (start_of_all (job_of l)) (lent_start_of_all_valid l at-start.requires.0)) in
    at-given.start.ensures.1.0 ∙ ap (layout_after at_all.start_of_all.new.layout) o

pub start_job_spec : {M : Type 1} → statement M
start_job_spec = tie.close (tie.spec
    start_of_all-requires (search rules) (search rules) returns)
