-- `strip_check::stands_before` meets its contract. Assumes nothing.
use Rattle.list_laws.proofs.Kit.{◌≡◌, ◌<◌, ◌≤◌, arith, rules, eq-eqb, le-ltb, lt-ltb, ne_eqb}
use Rattle.strip_check.proofs.stands_before.Statement.{statement}
use Rattle.strip_check.proofs.stands_before.Tie as tie

returns-then-strip-next : tie.Need-returns-then-strip-next
returns-then-strip-next c = simp (lt-ltb _ _ c.if-strip-next.true)

returns-then-next-strip : tie.Need-returns-then-next-strip
returns-then-next-strip c =
    let at-start : tie.Start = search in
    let a = at-start.args in
    let l : a.next.line < a.strip.line = c.if-next-strip.true in
    let h : a.next.line ≤ a.strip.line = omega arith in
    let n : a.strip.line ≡ a.next.line → ⊥ = λ e. omega arith in
    simp (le-ltb _ _ h, ne_eqb _ _ n)

returns : tie.Need-returns
returns c =
    let at-start : tie.Start = search in
    let a = at-start.args in
    let l : a.strip.line ≤ a.next.line = c.if-next-strip.false in
    let h : a.next.line ≤ a.strip.line = omega arith in
    let n : a.strip.line ≡ a.next.line = omega arith in
    simp (le-ltb _ _ h, eq-eqb _ _ n)

pub stands_before_spec : {M : Type 1} → statement M
stands_before_spec = tie.close (tie.spec
    returns-then-strip-next returns-then-next-strip (search rules) returns)
