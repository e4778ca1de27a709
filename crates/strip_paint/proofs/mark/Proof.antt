-- `strip_paint::mark` meets its contract: a place of a buffer is one point. Assumes nothing.
use Rattle.strip_paint.proofs.Painting.{one_painted}
use Rattle.list_laws.proofs.Kit.{rules}
use Rattle.strip_paint.proofs.mark.Statement.{statement}
use Rattle.strip_paint.proofs.mark.Tie as tie

returns : tie.Need-returns
returns c = let a = c.args in one_painted a.columns a.x a.y a.pixels.now c.requires.0 c.requires.1

pub mark_spec : {M : Type 1} → statement M
mark_spec = tie.close (tie.spec
    (search rules) (search rules) (search rules) (search rules) returns)
