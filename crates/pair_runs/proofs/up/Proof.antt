-- `pair_runs::up`: by the tests. Assumes nothing.
use Rattle.list_laws.proofs.Kit.{◌∙◌, ◌≡◌, ap, subst, min, arith, ℤ}
use mir.Syntax.{w32}
use mir.Val.{to_z, of_z}
use mir.ValLaws.{to_z-of_z}
use Rattle.model.specs.Overlap.{up}
use Rattle.pair_runs.proofs.Offsets.{up_none, up_far, up_near, not_negative_lem}
use Rattle.pair_runs.proofs.up.Statement.{statement}
use Rattle.pair_runs.proofs.up.Tie as tie

returns-then-o-lt0 : tie.Need-returns-then-o-lt0
returns-then-o-lt0 c =
    let o = c.before.args.o in
    let e : to_z w32 (of_z w32 o) ≡ o = to_z-of_z w32 o c.before.ranges.o in
    subst (λ (z : ℤ). 0 ≡ min (up z) 263) e (up_none (to_z w32 (of_z w32 o)) c.if-o-lt0.true)

returns-then-o-gt-FARTHEST_UP : tie.Need-returns-then-o-gt-FARTHEST_UP
returns-then-o-gt-FARTHEST_UP c =
    let o = c.before.before.args.o in
    let e : to_z w32 (of_z w32 o) ≡ o = to_z-of_z w32 o c.before.before.ranges.o in
    subst (λ (z : ℤ). 263 ≡ min (up z) 263) e (up_far (to_z w32 (of_z w32 o)) c.if-o-gt-FARTHEST_UP.true)

overflow_cast-result : tie.Need-overflow_cast-result
overflow_cast-result c =
    let o = c.before.before.args.o in
    let e : to_z w32 (of_z w32 o) ≡ o = to_z-of_z w32 o c.before.before.ranges.o in
    let z = to_z w32 (of_z w32 o) in
    (not_negative_lem z c.before.if-o-lt0.false, record { fits = omega (arith, up_near z c.before.if-o-lt0.false c.if-o-gt-FARTHEST_UP.false) })

returns : tie.Need-returns
returns c =
    let o = c.before.before.args.o in
    let e : to_z w32 (of_z w32 o) ≡ o = to_z-of_z w32 o c.before.before.ranges.o in
    up_near (to_z w32 (of_z w32 o)) c.before.if-o-lt0.false c.if-o-gt-FARTHEST_UP.false ∙ ap (λ (z : ℤ). min (up z) 263) e

pub up_spec : {M : Type 1} → statement M
up_spec = tie.close (tie.spec
    returns-then-o-lt0 returns-then-o-gt-FARTHEST_UP overflow_cast-result returns)
