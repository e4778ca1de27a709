-- `program_calls::print_job` meets its contract: the best layout passes, and its text is that of the run. Assumes nothing.
use Rattle.list_laws.proofs.Kit.{subst, sym, List, [], ◌∷◌, ℕ, rules}
use Rattle.model.specs.Lent.{Lent, lent_by, job_of}
use Rattle.model.specs.Program.{program_run}
use Rattle.layout_places.proofs.Fitting.{fitting}
use Rattle.layout_write_calls.specs.Written.{Written}
use Rattle.program_text.specs.Output.{output_bound}
use Rattle.program_calls.proofs.Taken.{best_passes}
use Rattle.program_calls.proofs.Running.{front_length, run_text_lem}
use Rattle.program_calls.proofs.print_job.Statement.{statement}
use Rattle.program_calls.proofs.print_job.Tie as tie

slice_bounds-layout-end : tie.Need-slice_bounds-layout-end
slice_bounds-layout-end c =
    let at-start : tie.Start = search in
    (fitting at-start.args.size at-start.args.table.now at-start.args.pixels.now at-start.requires.0).few_pieces

slice_bounds-places-end : tie.Need-slice_bounds-places-end
slice_bounds-places-end c =
    let at-start : tie.Start = search in
    front_length {A = List ℕ} at-start.args.size.count 64 (0 ∷ 0 ∷ 0 ∷ [])
    (fitting at-start.args.size at-start.args.table.now at-start.args.pixels.now at-start.requires.0).few_pieces

run_job-run-requires : tie.Need-run_job-run-requires
run_job-run-requires c κs =
    let at-start : tie.Start = search in (
      at-start.requires.0,
      sym (front_length {A = List ℕ} at-start.args.size.count 64 (0 ∷ 0 ∷ 0 ∷ [])
          (fitting at-start.args.size at-start.args.table.now at-start.args.pixels.now at-start.requires.0).few_pieces),
    )

write_run-requires : tie.Need-write_run-requires
write_run-requires c κs =
    let at-run-job : tie.After-run_job-run = search in
    let at-start : tie.Start = search in
    let a = at-start.args in
    let l : Lent = lent_by a.size a.table.now a.pixels.now in
    let p = at-start.requires in
    (best_passes l _ p.0 at-run-job.run_job-run.ensures.best, p.1)

returns : tie.Need-returns
returns c =
    let at-write-run : tie.After-write_run = search in
    let at-run-job : tie.After-run_job-run = search in
    let at-start : tie.Start = search in
    let a = at-start.args in
    let l : Lent = lent_by a.size a.table.now a.pixels.now in
    let p = at-start.requires in
    subst (λ (t : List ℕ). Written a.text.now 0 t output_bound at-write-run.write_run.result at-write-run.write_run.new.text)
    (run_text_lem (job_of l) at-run-job.run_job-run.result at-run-job.run_job-run.new.layout (program_run (job_of l)) at-run-job.run_job-run.ensures)
    at-write-run.write_run.ensures

pub print_job_spec : {M : Type 1} → statement M
print_job_spec =
    tie.close (tie.spec
    slice_bounds-layout-end slice_bounds-places-end run_job-run-requires write_run-requires (search rules) (search rules) returns)
