-- `search_line_sums::any_below` meets its contract: a block has a sum below the bound, or none of its eight is. Assumes nothing.
use Rattle.list_laws.proofs.Kit.{◌∙◌, ◌≡◌, subst, sym, ⊎_elim, ◌+◌, ◌*◌, ◌/◌, arith, length}
use Rattle.list_laws.proofs.Tests.{or_cases, or_neither}
use Rattle.search_line_sums.specs.Answers.{NoneBelow}
use Rattle.search_line_sums.proofs.Scans.{four_some, four_none}
use Rattle.search_line_sums.proofs.any_below.Goals as goal

pub loop-block-init : goal.loop-block-init
loop-block-init c = record { inside = omega arith; each = λ k l. absurd (omega arith) }

pub returns-then-four_below : goal.returns-then-four_below
returns-then-four_below c =
    let sums = c.args.sums.now in
    let a = c.loop-block.block * 8 in
    sym (⊎_elim (λ e. four_some sums c.args.bound a (omega arith) (sym c.four_below.ensures ∙ e))
    (λ e. four_some sums c.args.bound (a + 4) (omega arith) (sym c.four_below-in-loop-block.ensures ∙ e)) (or_cases _ _ c.if-four_below.true))

pub loop-block-preserved : goal.loop-block-preserved
loop-block-preserved c =
    let sums = c.args.sums.now in
    let bound = c.args.bound in
    let a = c.loop-block.block * 8 in
    let none = or_neither _ _ c.if-four_below.false in
    let next : a + 4 + 4 ≡ (c.loop-block.block + 1) * 8 = omega arith in
    subst (NoneBelow sums bound) next
    (four_none sums bound (a + 4) (omega arith) (sym c.four_below-in-loop-block.ensures ∙ none.1)
    (four_none sums bound a (omega arith) (sym c.four_below.ensures ∙ none.0) c.loop-block.invariant))

pub below_from-requires : goal.below_from-requires
below_from-requires c =
    let all : c.loop-block.block ≡ length c.args.sums.now / 8 = omega arith in rw (← all) c.loop-block.invariant
