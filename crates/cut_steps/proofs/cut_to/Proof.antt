-- `cut_to`: both coordinates of the line's end, in millimetres and not rounded. Assumes nothing.
use Rattle.list_laws.proofs.Kit.{rules}
use Rattle.cut_steps.proofs.cut_to.Statement.{statement}
use Rattle.cut_steps.proofs.cut_to.Tie as tie

returns : tie.Need-returns
returns c =
    let x : tie.After-x_at = search in
    let first : tie.After-millimetres-x = search in
    let y : tie.After-y_at = search in (
      rw (c.millimetres-y.ensures.0, y.y_at.ensures, first.millimetres-x.ensures.0, x.x_at.ensures),
      (rw x.x_at.ensures at first.millimetres-x.ensures.1, rw y.y_at.ensures at c.millimetres-y.ensures.1),
    )

pub cut_to_spec : {M : Type 1} → statement M
cut_to_spec = tie.close (tie.spec
    (search rules) (search rules) (search rules) (search rules) (search rules) (search rules) returns)
