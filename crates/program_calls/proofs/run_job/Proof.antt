-- `program_calls::run_job` meets its contract: the start layout and weights 1 are valid, so that the guided run is given. Assumes nothing.
use Rattle.list_laws.proofs.Kit.{◌∙◌, sym, rules}
use Rattle.model.specs.Lent.{Lent, lent_by, job_of}
use Rattle.model.specs.Program.{program_run}
use Rattle.layout_places.proofs.Fitting.{fitting}
use Rattle.program_calls.proofs.Running.{front_length, pairs_few, ones, run_given, run_gives, run_not_refused}
use Rattle.program_calls.proofs.run_job.Statement.{statement}
use Rattle.program_calls.proofs.run_job.Tie as tie

start_job-requires : tie.Need-start_job-requires
start_job-requires c κs = let at-start : tie.Start = search in (at-start.requires.0, at-start.requires.1)

pair_count-pairs-requires : tie.Need-pair_count-pairs-requires
pair_count-pairs-requires c κs =
    let at-start : tie.Start = search in
    (fitting at-start.args.size at-start.args.table.now at-start.args.pixels.now at-start.requires.0).few_pieces

slice_bounds-weights-end : tie.Need-slice_bounds-weights-end
slice_bounds-weights-end c =
    let at-start : tie.Start = search in
    pairs_few _ _ (fitting at-start.args.size at-start.args.table.now at-start.args.pixels.now at-start.requires.0).few_pieces
    c.pair_count-pairs.ensures

slice_bounds-guided_run-end : tie.Need-slice_bounds-guided_run-end
slice_bounds-guided_run-end c =
    let at-start : tie.Start = search in
    front_length _ 2016 _
    (pairs_few _ _ (fitting at-start.args.size at-start.args.table.now at-start.args.pixels.now at-start.requires.0).few_pieces
    c.pair_count-pairs.ensures)

returns-in-Ok : tie.Need-returns-in-Ok
returns-in-Ok c =
    let at-guided-run : tie.After-guided_run = search in
    let at-pair-count : tie.After-pair_count-pairs = search in
    let at-after-start : tie.After-start_job = search in
    let at-start : tie.Start = search in
    let a = at-start.args in
    let l : Lent = lent_by a.size a.table.now a.pixels.now in
    let o = run_given l _ _ at-start.requires.0 at-after-start.start_job.ensures
    (ones a.size.count _ (fitting at-start.args.size at-start.args.table.now at-start.args.pixels.now at-start.requires.0).few_pieces
    at-pair-count.pair_count-pairs.ensures) in
    run_gives _ (program_run (job_of l)) o _ _ _ (sym c.in-Ok.is ∙ at-guided-run.guided_run.ensures.0)
    at-guided-run.guided_run.ensures.1.0

returns-in-Err : tie.Need-returns-in-Err
returns-in-Err c =
    let at-guided-run : tie.After-guided_run = search in
    let at-pair-count : tie.After-pair_count-pairs = search in
    let at-after-start : tie.After-start_job = search in
    let at-start : tie.Start = search in
    let a = at-start.args in
    let l : Lent = lent_by a.size a.table.now a.pixels.now in
    let o = run_given l _ _ at-start.requires.0 at-after-start.start_job.ensures
    (ones a.size.count _ (fitting at-start.args.size at-start.args.table.now at-start.args.pixels.now at-start.requires.0).few_pieces
    at-pair-count.pair_count-pairs.ensures) in
    absurd (run_not_refused _ (program_run (job_of l)) o _ (sym c.in-Err.is ∙ at-guided-run.guided_run.ensures.0))

pub run_job_spec : {M : Type 1} → statement M
run_job_spec =
    tie.close (tie.spec
    start_job-requires pair_count-pairs-requires slice_bounds-weights-end slice_bounds-guided_run-end (search rules) (search rules) (search rules)
    (search rules) (search rules) returns-in-Ok (search rules) (search rules) returns-in-Err)
