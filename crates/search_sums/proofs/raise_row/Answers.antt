-- `search_sums::raise_row`: in each turn the pair (i, k) is there, and its weight is raised as the pair asks. Assumes nothing.
use Rattle.list_laws.proofs.Kit.{◌≡◌, ◌*◌, ◌+◌, subst, sym, arith, get_or}
use Rattle.search_laws.specs.Pairs.{pair_index, row_start}
use Rattle.search_laws.proofs.Pairs.{row_next}
use Rattle.search_laws.specs.Raising.{Raising}
use Rattle.search_sums.specs.Table.{raised_at}
use Rattle.search_sums.proofs.Rows.{row_place}
use Rattle.search_sums.proofs.Rising.{raise_step}
use Rattle.search_sums.proofs.raise_row.Goals as goal

pub raise_pair-requires : goal.raise_pair-requires
raise_pair-requires c =
    let b = c.requires.fact_2 in
    let o = c.loop-k in
    let same = o.auto.weights in
    let t = row_place c.args.n c.args.i o.k o.at c.args.from _ _ c.requires.fact_1 b.1 (omega arith) (omega arith) o.invariant.at in
    let there = t.there in
    omega arith

pub overflow_add-at : goal.overflow_add-at
overflow_add-at c =
    let b = c.requires.fact_2 in
    let o = c.loop-k in
    let t = row_place c.args.n c.args.i o.k o.at c.args.from _ _ c.requires.fact_1 b.1 (omega arith) (omega arith) o.invariant.at in
    omega arith

pub loop-k-preserved : goal.loop-k-preserved
loop-k-preserved c =
    let a = c.args in
    let o = c.loop-k in
    let b = c.requires.fact_2 in
    let start = b.1 in
    let e = o.invariant.at in
    let now : c.raise_pair.new.weights ≡ raised_at o.weights o.at (get_or a.penalties.now (a.i * 64 + o.k) 0) = c.raise_pair.ensures in
    let index : pair_index a.n a.i o.k ≡ o.at = omega arith in
    record {
      at = omega arith;
      raised =
          λ j v ws n table valid r.
          subst (λ now. Raising j v ws (o.at + 1) now) (sym now)
          (raise_step j v a.n ws o.weights a.penalties.now a.i o.k o.at n table valid (omega arith) (omega arith) index
          (o.invariant.raised j v ws n table valid r));
    }

pub returns : goal.returns
returns c j v ws n t valid r =
    let a = c.args in
    let o = c.loop-k in
    let b = c.requires.fact_2 in
    let start = b.1 in
    let here : o.at ≡ row_start a.n (a.i + 1) = omega (arith, row_next a.n a.i) in
    subst (λ k. Raising j v ws k o.weights) here (o.invariant.raised j v ws n t valid r)
