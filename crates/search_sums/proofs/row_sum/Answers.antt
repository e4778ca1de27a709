-- `search_sums::row_sum`: the terms of all pieces are the piece's pair sum. Assumes nothing.
use Rattle.list_laws.proofs.Kit.{◌∙◌, ◌≡◌, subst, sym, arith}
use Rattle.model.specs.Bounded.{sum_below}
use Rattle.search_sums.proofs.Rows.{row_term, row_all}
use Rattle.search_sums.proofs.row_sum.Goals as goal

pub returns : goal.returns
returns c j v e t =
    let a = c.args in
    let o = c.loop-k in
    let done : o.k ≡ a.n = omega arith in
    subst (λ k. o.sum ≡ sum_below k (row_term a.n a.penalties.now a.weights.now a.i)) done o.invariant.sum
    ∙ sym (row_all j v a.n a.penalties.now a.weights.now a.i e t c.requires.fact_2 c.requires.fact_1.one_per_pair)
