-- `close_run`: no run stores nothing; else the run is one line. Assumes nothing.
use Rattle.list_laws.proofs.Kit.{◌∙◌, ap, arith, length, length-set, rules}
use Rattle.cut_scan.proofs.Storing.{closed_none, closed_one}
use Rattle.cut_scan.proofs.close_run.Statement.{statement}
use Rattle.cut_scan.proofs.close_run.Tie as tie

returns-then-run-eq0 : tie.Need-returns-then-run-eq0
returns-then-run-eq0 c =
    let a = c.before.args in
    (closed_none a.direction a.line a.end a.run a.lines.now a.at c.if-run-eq0.true, omega arith)

shape_of-lines : tie.Need-shape_of-lines
shape_of-lines c = ap length c.before.put.ensures ∙ simp length-set

returns : tie.Need-returns
returns c =
    let s : tie.Start = search in
    let e : tie.Else-run-eq0 = search in
    let number : tie.After-direction_number = search in
    let a = s.args in (
      rw (c.before.put.ensures, number.direction_number.ensures)
          (closed_one a.direction a.line a.end a.run a.lines.now a.at e.if-run-eq0.false s.requires.2),
      omega arith,
    )

pub close_run_spec : {M : Type 1} → statement M
close_run_spec =
    tie.close (tie.spec
    returns-then-run-eq0 (search rules) (search rules) (search rules) (search rules) (search rules) (search rules) (search rules) shape_of-lines
    returns)
