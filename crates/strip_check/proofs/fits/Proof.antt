-- `strip_check::fits` meets its contract. Assumes nothing.
use Rattle.list_laws.proofs.Kit.{◌<◌, ◌≤◌, arith, rules, le-ltb, lt-ltb}
use Rattle.strip_check.proofs.fits.Statement.{statement}
use Rattle.strip_check.proofs.fits.Tie as tie

returns-then-strip-eq0 : tie.Need-returns-then-strip-eq0
returns-then-strip-eq0 c = let h : c.args.strip.count ≤ 0 = omega arith in simp (le-ltb 0 _ h)

returns-then-lines-strip : tie.Need-returns-then-lines-strip
returns-then-lines-strip c =
    let at-start : tie.Start = search in
    let a = at-start.args in
    let h : 0 < a.strip.count = omega arith in simp (lt-ltb 0 _ h, le-ltb a.strip.line a.lines c.if-lines-strip.true)

returns : tie.Need-returns
returns c =
    let at-start : tie.Start = search in
    let a = at-start.args in
    let h : 0 < a.strip.count = omega arith in simp (lt-ltb 0 _ h, lt-ltb a.strip.line a.lines c.if-lines-strip.false)

pub fits_spec : {M : Type 1} → statement M
fits_spec = tie.close (tie.spec
    returns-then-strip-eq0 returns-then-lines-strip (search rules) returns)
