-- `search_sums::total`: a row more is in the sum, and the next one's weights begin after its own. Assumes nothing.
use Rattle.list_laws.proofs.Kit.{◌∙◌, ◌≡◌, refl, subst, sym, arith}
use Rattle.model.specs.Bounded.{sum_below}
use Rattle.descent_laws.proofs.Bounds.{pairs_at_most}
use Rattle.search_laws.specs.Pairs.{row_start, row_part}
use Rattle.search_laws.proofs.Pairs.{row_next, row_below}
use Rattle.search_laws.proofs.Rows.{parts_more}
use Rattle.search_sums.specs.Table.{table_cost}
use Rattle.search_sums.proofs.Rows.{all_parts}
use Rattle.search_sums.proofs.total.Goals as goal

pub loop-i-init : goal.loop-i-init
unfolding row_start
loop-i-init c = record { start = refl; small = omega arith; sum = refl }

pub overflow_add-from-in-loop-i : goal.overflow_add-from-in-loop-i
overflow_add-from-in-loop-i c =
    let n = c.args.n in
    let most = pairs_at_most n c.requires.few in
    let below = row_below n c.loop-i.i (omega arith) in
    omega arith

pub loop-i-preserved : goal.loop-i-preserved
loop-i-preserved c =
    let a = c.args in
    let o = c.loop-i in
    let part = c.row_part-sum.ensures in
    record {
      start = omega (arith, row_next a.n o.i);
      small = omega (arith, part.small);
      sum = parts_more a.n (table_cost a.penalties.now) a.weights.now o.i o.from o.sum _ o.invariant.start o.invariant.sum part.part;
    }

pub returns : goal.returns
returns c j v e t =
    let a = c.args in
    let o = c.loop-i in
    let done : o.i ≡ a.n = omega arith in
    subst (λ k. o.sum ≡ sum_below k (λ i. row_part a.n (table_cost a.penalties.now i) a.weights.now i (row_start a.n i))) done o.invariant.sum
    ∙ sym (all_parts j v a.n a.penalties.now a.weights.now e t c.requires.one_per_pair)
