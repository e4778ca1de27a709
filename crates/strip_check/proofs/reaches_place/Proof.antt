-- `strip_check::reaches_place` meets its contract. Assumes nothing.
use Rattle.list_laws.proofs.Kit.{rules, le-leb, lt-leb}
use Rattle.strip_check.proofs.reaches_place.Statement.{statement}
use Rattle.strip_check.proofs.reaches_place.Tie as tie

returns-then-place-strip : tie.Need-returns-then-place-strip
returns-then-place-strip c = simp (lt-leb _ _ c.if-place-strip.true)

returns : tie.Need-returns
returns c = simp (le-leb _ _ c.if-place-strip.false)

pub reaches_place_spec : {M : Type 1} → statement M
reaches_place_spec = tie.close (tie.spec
    returns-then-place-strip (search rules) returns)
