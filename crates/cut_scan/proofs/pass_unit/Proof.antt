-- `pass_unit`: one side more, or the end of a run. Assumes nothing.
use Rattle.list_laws.proofs.Kit.{◌∙◌, ◌≡◌, sym, subst, false, true, List, [], map, ◌+◌, arith, rules}
use Rattle.model.specs.Strip.{Strip, strip_of, closing}
use Rattle.cut_scan.specs.Scan.{side_at, row_from, Left}
use Rattle.cut_scan.proofs.Storing.{left_append, appended_length}
use Rattle.cut_scan.proofs.Rows.{row_side, row_gap}
use Rattle.cut_scan.proofs.pass_unit.Statement.{statement}
use Rattle.cut_scan.proofs.pass_unit.Tie as tie

returns-then-is_side : tie.Need-returns-then-is_side
returns-then-is_side c =
    let s : tie.Start = search in
    let asked : tie.After-is_side = search in
    let a = s.args in
    let side : side_at a.owners.now a.grid a.a a.line ≡ true = sym asked.is_side.ensures ∙ c.if-is_side.true in (
      λ before from all w.
          subst (λ (rest : List Strip). Left a.direction before from rest a.lines.now a.at all)
          (row_side a.owners.now a.grid a.line a.a a.run s.requires.1 side) w,
      (omega arith, omega arith),
    )

shape_of-lines : tie.Need-shape_of-lines
shape_of-lines c = appended_length c.before.close_run.ensures.0

returns : tie.Need-returns
returns c =
    let s : tie.Start = search in
    let asked : tie.After-is_side = search in
    let e : tie.Else-is_side = search in
    let a = s.args in
    let gap : side_at a.owners.now a.grid a.a a.line ≡ false = sym asked.is_side.ensures ∙ e.if-is_side.false in
    let next = c.before.close_run.ensures.1 in (
      λ before from all w.
          left_append (map (strip_of a.line) (closing a.a a.run [])) (row_from a.owners.now a.grid a.line (a.a + 1) 0)
          (subst (λ (rest : List Strip). Left a.direction before from rest a.lines.now a.at all)
          (row_gap a.owners.now a.grid a.line a.a a.run s.requires.1 gap) w)
          c.before.close_run.ensures.0,
      (omega arith, omega arith),
    )

pub pass_unit_spec : {M : Type 1} → statement M
pass_unit_spec = tie.close (tie.spec
    (search rules) (search rules) returns-then-is_side (search rules) shape_of-lines returns)
