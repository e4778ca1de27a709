-- `search_sums::raise`: a row more is raised, and the next one's weights begin after its own. Assumes nothing.
use Rattle.list_laws.proofs.Kit.{◌∙◌, ◌≡◌, ◌+◌, ◌-◌, ap, refl, subst, sym, arith}
use Rattle.descent_laws.proofs.Bounds.{pairs_at_most}
use Rattle.search_laws.specs.Pairs.{row_start}
use Rattle.search_laws.proofs.Pairs.{row_next, row_below}
use Rattle.search_laws.specs.Raising.{Raising}
use Rattle.search_laws.proofs.GuidedLoop.{raising_begin}
use Rattle.search_sums.proofs.Rising.{raise_end}
use Rattle.search_sums.proofs.raise.Goals as goal

pub loop-i-init : goal.loop-i-init
unfolding row_start
loop-i-init c = record { start = refl; raised = λ j v e t w. raising_begin j v _ }

pub overflow_add-from-in-loop-i : goal.overflow_add-from-in-loop-i
overflow_add-from-in-loop-i c =
    let n = c.args.n in
    let most = pairs_at_most n c.requires.few in
    let below = row_below n c.loop-i.i (omega arith) in
    omega arith

pub loop-i-preserved : goal.loop-i-preserved
loop-i-preserved c =
    let a = c.args in
    let o = c.loop-i in
    let start = o.invariant.start in
    let next : o.from + (a.n - (o.i + 1)) ≡ row_start a.n (o.i + 1) = omega (arith, row_next a.n o.i) in
    record {
      start = next;
      raised =
          λ j v e t w.
          subst (λ k. Raising j v a.weights.now k c.raise_row.new.weights) (sym next)
          (c.raise_row.ensures j v a.weights.now e t w (o.invariant.raised j v e t w));
    }

pub returns : goal.returns
returns c j v e t w =
    let a = c.args in
    let o = c.loop-i in
    let done : o.i ≡ a.n = omega arith in
    raise_end j v a.n a.weights.now o.weights o.from e w (o.invariant.start ∙ ap (row_start a.n) done) (o.invariant.raised j v e t w)
