-- `strip_scan::scan::is_pixel` meets its contract. Assumes nothing.
use Rattle.list_laws.proofs.Kit.{rules}
use Rattle.strip_scan.proofs.scan.is_pixel.Statement.{statement}
use Rattle.strip_scan.proofs.scan.is_pixel.Tie as tie

has_pixel-requires : tie.Need-has_pixel-requires
has_pixel-requires c κs =
    let at-start : tie.Start = search in
    (at-start.requires.0, rw c.in-Horizontal.is at at-start.requires.1)

has_pixel-requires-in-Vertical : tie.Need-has_pixel-requires-in-Vertical
has_pixel-requires-in-Vertical c κs =
    let at-start : tie.Start = search in
    let h = rw c.in-Vertical.is at at-start.requires.1 in (at-start.requires.0, (h.1, h.0))

returns-in-Horizontal : tie.Need-returns-in-Horizontal
returns-in-Horizontal c = rw c.in-Horizontal.is c.has_pixel.ensures

returns-in-Vertical : tie.Need-returns-in-Vertical
returns-in-Vertical c = rw c.in-Vertical.is c.has_pixel-in-Vertical.ensures

pub is_pixel_spec : {M : Type 1} → statement M
is_pixel_spec = tie.close (tie.spec
    (search rules) has_pixel-requires (search rules) has_pixel-requires-in-Vertical returns-in-Horizontal returns-in-Vertical)
