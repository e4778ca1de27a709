-- `strip_scan::scan::line_count` meets its contract: the turned box's sides are those of the turned piece. Assumes nothing.
use Rattle.list_laws.proofs.Kit.{ap, refl, [], rules}
use Rattle.piece_pixels.specs.Turned.{stored_by}
use Rattle.piece_pixels.specs.declared.Sides.{Sides}
use Rattle.strip_scan.proofs.scan.line_count.Statement.{statement}
use Rattle.strip_scan.proofs.scan.line_count.Tie as tie

returns-in-Horizontal : tie.Need-returns-in-Horizontal
returns-in-Horizontal c =
    let at-start : tie.Start = search in
    let e = c.sides_in-sides.ensures.0 (stored_by [] at-start.args.piece) refl refl in
    rw c.in-Horizontal.is (ap (λ (s : Sides). s.rows) e)

returns-in-Vertical : tie.Need-returns-in-Vertical
returns-in-Vertical c =
    let at-start : tie.Start = search in
    let e = c.sides_in-sides.ensures.0 (stored_by [] at-start.args.piece) refl refl in
    rw c.in-Vertical.is (ap (λ (s : Sides). s.columns) e)

pub line_count_spec : {M : Type 1} → statement M
line_count_spec = tie.close (tie.spec
    (search rules) (search rules) (search rules) returns-in-Horizontal returns-in-Vertical)
