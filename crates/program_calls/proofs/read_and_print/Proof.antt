-- `program_calls::read_and_print` meets its contract: the front of the buffers is the job that was read (`read-front`). Assumes nothing.
use Rattle.list_laws.proofs.Kit.{sym, List, [], ◌∷◌, ℕ, le_of_eq, arith, length-replicate, length-take-le, rules}
use Rattle.model.specs.Lent.{piece_bound, area_bound}
use Rattle.model.specs.Refusal.{refused}
use Rattle.model.specs.JobText.{read_job}
use Rattle.program_calls.proofs.Printing.{written_printed}
use Rattle.program_calls.proofs.Front.{Front, Lends, front_read, front_refused, front_lends}
use Rattle.program_calls.proofs.read_and_print.Statement.{statement}
use Rattle.program_calls.proofs.read_and_print.Tie as tie

-- the front of the buffers is the job that was read
read-front : (c : tie.In-Ok) →
    let at-read-job : tie.After-read_job = search in
    let at-start : tie.Start = search in
    Front (read_job at-start.args.input.now piece_bound area_bound) c.in-Ok.size at-read-job.read_job.new.table
    at-read-job.read_job.new.pixels
read-front c =
    let at-read-job : tie.After-read_job = search in
    let at-start : tie.Start = search in
    front_read at-start.args.input.now _ _ _ _ _ (length-replicate {A = List ℕ} 64 (0 ∷ 0 ∷ 0 ∷ [])) (length-replicate {A = ℕ} 65536 0)
    at-read-job.read_job.auto.table
    at-read-job.read_job.auto.pixels at-read-job.read_job.ensures _ c.in-Ok.is

-- and so are the parts that are lent
read-lends : (c : tie.After-pixel_start-area) →
    let at_size : tie.In-Ok = search in
    let at-read-job : tie.After-read_job = search in
    let at-start : tie.Start = search in
    Lends (read_job at-start.args.input.now piece_bound area_bound) at_size.in-Ok.size at-read-job.read_job.new.table
    at-read-job.read_job.new.pixels c.pixel_start-area.result
read-lends c =
    let at_size : tie.In-Ok = search in
    front_lends _ _ _ _ _ c.pixel_start-area.ensures (read-front at_size)

slice_bounds-table-end : tie.Need-slice_bounds-table-end
slice_bounds-table-end c = let at_size : tie.In-Ok = search in (read-front at_size).entries_room

slice_bounds-entries-end : tie.Need-slice_bounds-entries-end
slice_bounds-entries-end c = let at_size : tie.In-Ok = search in sym (length-take-le _ _ (read-front at_size).entries_room)

pixel_start-area-requires : tie.Need-pixel_start-area-requires
pixel_start-area-requires c κs =
    let at_size : tie.In-Ok = search in
    (le_of_eq (sym (length-take-le _ _ (read-front at_size).entries_room)), (read-front at_size).few)

slice_bounds-pixels-end : tie.Need-slice_bounds-pixels-end
slice_bounds-pixels-end c = let lends : tie.After-pixel_start-area = search in (read-lends lends).bytes_room

slice_bounds-print_job-end : tie.Need-slice_bounds-print_job-end
slice_bounds-print_job-end c = let lends : tie.After-pixel_start-area = search in sym (length-take-le _ _ (read-lends lends).bytes_room)

print_job-requires : tie.Need-print_job-requires
print_job-requires c κs =
    let at-start : tie.Start = search in
    let lends : tie.After-pixel_start-area = search in
    ((read-lends lends).well, at-start.requires)

returns-in-Err : tie.Need-returns-in-Err
returns-in-Err c =
    let at-refusal : tie.In-Err = search in
    let at-read-job : tie.After-read_job = search in
    let at-start : tie.Start = search in
    let o = front_refused at-start.args.input.now _ _ _ _ _ (length-replicate {A = List ℕ} 64 (0 ∷ 0 ∷ 0 ∷ [])) (length-replicate {A = ℕ} 65536 0)
    at-read-job.read_job.auto.table
    at-read-job.read_job.auto.pixels at-read-job.read_job.ensures _ at-refusal.in-Err.is in
    written_printed _ (refused at-refusal.in-Err.refusal) o c.put_refusal_line.ensures (omega arith)

returns-in-Ok : tie.Need-returns-in-Ok
returns-in-Ok c =
    let at-pixel-start : tie.After-pixel_start-area = search in
    let printed : tie.After-print_job = search in
    written_printed _ _ (read-lends (at-pixel-start)).job printed.print_job.ensures (omega arith)

pub read_and_print_spec : {M : Type 1} → statement M
read_and_print_spec =
    tie.close (tie.spec
    (search rules) (search rules) (search rules) (search rules) (search rules) (search rules) slice_bounds-table-end slice_bounds-entries-end
    pixel_start-area-requires slice_bounds-pixels-end slice_bounds-print_job-end print_job-requires (search rules) returns-in-Err (search rules)
    (search rules) returns-in-Ok)
