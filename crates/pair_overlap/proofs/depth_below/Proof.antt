-- `pair_overlap::depth_below`: the second search is cut off at what the first one found, so it gives the lesser of the two.
-- Assumes nothing.
use Rattle.list_laws.proofs.Kit.{◌∙◌, ap, arith, rules}
use Rattle.pair_overlap.specs.Meet.{clear_below}
use Rattle.pair_overlap.proofs.Walk.{clear_within, clear_cut}
use Rattle.pair_overlap.proofs.depth_below.Statement.{statement}
use Rattle.pair_overlap.proofs.depth_below.Tie as tie

clear_below-requires : tie.Need-clear_below-requires
clear_below-requires c κs =
    let s = c.before.args in
    let p = c.before.requires in
    let few = p.1.1.1 in (
      p.1.0,
      (
        p.0,
        (
          (p.1.1.0.1, p.1.1.0.0),
          omega (arith, c.clear_below-up.ensures, clear_within s.gap s.a.now s.u s.b.now s.v s.bound),
        ),
      ),
    )

returns : tie.Need-returns
returns c =
    let s = c.before.before.args in
    c.clear_below.ensures ∙ ap (clear_below s.gap s.b.now s.v s.a.now s.u) c.before.clear_below-up.ensures
    ∙ clear_cut s.gap s.b.now s.v s.a.now s.u s.bound _ (clear_within s.gap s.a.now s.u s.b.now s.v s.bound)

pub depth_below_spec : {M : Type 1} → statement M
depth_below_spec = tie.close (tie.spec
    (λ c κs. search rules) clear_below-requires returns)
