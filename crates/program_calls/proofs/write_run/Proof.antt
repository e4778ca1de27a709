-- `program_calls::write_run` meets its contract: neither call refuses a layout that passes, and the end line follows the text. Assumes nothing.
use Rattle.list_laws.proofs.Kit.{◌∙◌, sym, arith, rules}
use Rattle.model.specs.Buffer.{layout_of}
use Rattle.model.specs.Lent.{Lent, lent_by, job_of}
use Rattle.program_calls.proofs.Taken.{used_taken, used_not_refused, text_taken, text_not_refused}
use Rattle.program_calls.proofs.Running.{run_written}
use Rattle.program_calls.proofs.write_run.Statement.{statement}
use Rattle.program_calls.proofs.write_run.Tie as tie

returns-in_default : tie.Need-returns-in_default
returns-in_default c =
    let at-start : tie.Start = search in
    let a = at-start.args in
    let l : Lent = lent_by a.size a.table.now a.pixels.now in
    let p = at-start.requires in
    absurd (used_not_refused l a.layout.now p.0 _ (sym c.in_default.is ∙ c.used_length.ensures.0))

returns-in_default-write_layout : tie.Need-returns-in_default-write_layout
returns-in_default-write_layout c =
    let at-write-layout : tie.After-write_layout = search in
    let at-start : tie.Start = search in
    let a = at-start.args in
    let l : Lent = lent_by a.size a.table.now a.pixels.now in
    let p = at-start.requires in
    let long = p.1 in
    absurd (text_not_refused l a.layout.now p.0 a.text.now (omega arith) _
    (sym c.in_default-write_layout.is ∙ at-write-layout.write_layout.ensures.0))

put_end_line-requires : tie.Need-put_end_line-requires
put_end_line-requires c κs =
    let at-write-layout : tie.After-write_layout = search in
    let at-start : tie.Start = search in
    let a = at-start.args in
    let l : Lent = lent_by a.size a.table.now a.pixels.now in
    let p = at-start.requires in
    let long = p.1 in
    let w = text_taken l a.layout.now p.0 a.text.now (omega arith) _ _
    (sym c.in-Ok-write_layout.is ∙ at-write-layout.write_layout.ensures.0) at-write-layout.write_layout.ensures.1 in
    let end = w.end in
    let short = w.short in
    omega arith

returns : tie.Need-returns
returns c =
    let at_next : tie.In-Ok-write_layout = search in
    let at-write-layout : tie.After-write_layout = search in
    let at-used : tie.In-Ok = search in
    let at-used-length : tie.After-used_length = search in
    let at-start : tie.Start = search in
    let a = at-start.args in
    let l : Lent = lent_by a.size a.table.now a.pixels.now in
    let p = at-start.requires in
    let long = p.1 in
    let w = text_taken l a.layout.now p.0 a.text.now (omega arith) _ _ (sym at_next.in-Ok-write_layout.is ∙ at-write-layout.write_layout.ensures.0)
    at-write-layout.write_layout.ensures.1 in
    let used = used_taken l a.layout.now p.0 _ (sym at-used.in-Ok.is ∙ at-used-length.used_length.ensures.0) in
    run_written (job_of l) a.run (layout_of a.layout.now) _ _ _ _ _ _ used w c.put_end_line.ensures

pub write_run_spec : {M : Type 1} → statement M
write_run_spec =
    tie.close (tie.spec
    (search rules) (search rules) (search rules) returns-in_default (search rules) (search rules) (search rules) (search rules)
    returns-in_default-write_layout put_end_line-requires (search rules) returns)
