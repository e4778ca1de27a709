-- `layout_strips::conflicts_of` meets its contract: pieces whose boxes are farther apart do not conflict, and the depth, cut off at 1, is 1 exactly
-- where they do. Assumes nothing.
use Rattle.list_laws.proofs.Kit.{◌∙◌, ap, sym, ℕ, arith, eqb, rules}
use Rattle.model.specs.declared.Direction.TheVariants.{Horizontal}
use Rattle.pair_measure.proofs.Amounts.{depth_conflicts}
use Rattle.layout_strips.proofs.Measured.{gap_conflicts}
use Rattle.layout_strips.proofs.conflicts_of.Statement.{statement}
use Rattle.layout_strips.proofs.conflicts_of.Tie as tie

boxes_meet-requires : tie.Need-boxes_meet-requires
boxes_meet-requires c κs =
    let s : tie.Start = search in (
      ((s.requires.0.ready s.args.i s.requires.1.0.0).entry.within, (s.requires.0.ready s.args.k s.requires.1.0.1).entry.within),
      (s.requires.1.0, s.requires.1.1.1),
    )

returns-then-not-boxes_meet : tie.Need-returns-then-not-boxes_meet
returns-then-not-boxes_meet c =
    let s : tie.Start = search in
    let met : tie.After-boxes_meet = search in
    (λ size same. sym (met.boxes_meet.ensures c.if-not-boxes_meet.true size s.args.pixels.now same), s.requires.1.1.0)

depth_of-requires : tie.Need-depth_of-requires
depth_of-requires c κs = let s : tie.Start = search in let few = s.requires.1.1.1 in (s.requires.0, (s.requires.1.0, (omega arith, s.requires.1.1.0)))

returns : tie.Need-returns
returns c =
    let s : tie.Start = search in
    let a = s.args in
    let measured : tie.After-depth_of = search in (
      λ size same.
          ap (λ (n : ℕ). eqb n 1) (measured.depth_of.ensures.0 size) ∙ depth_conflicts a.gap Horizontal _ _ _ _
          ∙ gap_conflicts size a.table.now a.pixels.now a.layout.now a.gap a.i a.k same,
      measured.depth_of.ensures.1,
    )

pub conflicts_of_spec : {M : Type 1} → statement M
conflicts_of_spec = tie.close (tie.spec
    boxes_meet-requires returns-then-not-boxes_meet depth_of-requires (search rules) (search rules) returns)
