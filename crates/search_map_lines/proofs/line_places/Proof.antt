-- `search_map_lines::line_places` meets its contract: by the direction, the cells of a row or of a column. Assumes nothing.
use Rattle.list_laws.proofs.Kit.{refl, rules}
use Rattle.search_map_lines.proofs.line_places.Statement.{statement}
use Rattle.search_map_lines.proofs.line_places.Tie as tie

returns-in-Horizontal : tie.Need-returns-in-Horizontal
returns-in-Horizontal c = rw c.before.in-Horizontal.is refl

returns-in-Vertical : tie.Need-returns-in-Vertical
returns-in-Vertical c = rw c.before.in-Vertical.is refl

pub line_places_spec : {M : Type 1} → statement M
line_places_spec =
    tie.close (tie.spec
    (search rules) (search rules) (search rules) (search rules) (search rules) (search rules) returns-in-Horizontal returns-in-Vertical)
