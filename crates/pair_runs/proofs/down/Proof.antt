-- `pair_runs::down`: by the tests. Assumes nothing.
use Rattle.list_laws.proofs.Kit.{◌∙◌, ◌≡◌, ap, subst, sym, min, arith, T, ◌-ℤ◌, nat_abs, pos, ℤ, non_neg}
use mir.Syntax.{w32}
use mir.Val.{to_z, of_z}
use mir.ValLaws.{to_z-of_z}
use Rattle.model.specs.Overlap.{down}
use Rattle.pair_runs.proofs.Offsets.{NearOffset, down_none, down_far, down_near}
use Rattle.pair_runs.proofs.down.Statement.{statement}
use Rattle.pair_runs.proofs.down.Tie as tie

returns-then-o-ge0 : tie.Need-returns-then-o-ge0
returns-then-o-ge0 c =
    let o = c.before.args.o in
    let e : to_z w32 (of_z w32 o) ≡ o = to_z-of_z w32 o c.before.ranges.o in
    subst (λ (z : ℤ). 0 ≡ min (down z) 263) e (down_none (to_z w32 (of_z w32 o)) c.if-o-ge0.true)

returns-then-o-lt-FARTHEST_DOWN : tie.Need-returns-then-o-lt-FARTHEST_DOWN
returns-then-o-lt-FARTHEST_DOWN c =
    let o = c.before.before.args.o in
    let e : to_z w32 (of_z w32 o) ≡ o = to_z-of_z w32 o c.before.before.ranges.o in
    subst (λ (z : ℤ). 263 ≡ min (down z) 263) e (down_far (to_z w32 (of_z w32 o)) c.if-o-lt-FARTHEST_DOWN.true)

overflow_sub-result : tie.Need-overflow_sub-result
overflow_sub-result c =
    let o = c.before.before.args.o in
    let e : to_z w32 (of_z w32 o) ≡ o = to_z-of_z w32 o c.before.before.ranges.o in
    (down_near (to_z w32 (of_z w32 o)) c.before.if-o-ge0.false c.if-o-lt-FARTHEST_DOWN.false).fits

overflow_cast-result : tie.Need-overflow_cast-result
overflow_cast-result c =
    let o = c.before.before.args.o in
    let e : to_z w32 (of_z w32 o) ≡ o = to_z-of_z w32 o c.before.before.ranges.o in
    let z = to_z w32 (of_z w32 o) in
    let n : NearOffset z = down_near z c.before.if-o-ge0.false c.if-o-lt-FARTHEST_DOWN.false in
    let f : to_z w32 (of_z w32 (pos 0 -ℤ z)) ≡ pos 0 -ℤ z = to_z-of_z w32 (pos 0 -ℤ z) n.fits in
    (subst (λ (y : ℤ). T (non_neg y)) (sym f) n.not_negative, record { fits = omega (arith, ap nat_abs f, n.is) })

returns : tie.Need-returns
returns c =
    let o = c.before.before.args.o in
    let e : to_z w32 (of_z w32 o) ≡ o = to_z-of_z w32 o c.before.before.ranges.o in
    let z = to_z w32 (of_z w32 o) in
    let n : NearOffset z = down_near z c.before.if-o-ge0.false c.if-o-lt-FARTHEST_DOWN.false in
    ap nat_abs (to_z-of_z w32 (pos 0 -ℤ z) n.fits) ∙ n.is ∙ ap (λ (y : ℤ). min (down y) 263) e

pub down_spec : {M : Type 1} → statement M
down_spec = tie.close (tie.spec
    returns-then-o-ge0 returns-then-o-lt-FARTHEST_DOWN overflow_sub-result overflow_cast-result returns)
