-- `search_sums::plain_total` meets its contract: the plain sum is the weighted sum by weights 1. Assumes nothing.
use Rattle.list_laws.proofs.Kit.{◌∙◌, ◌≡◌, ap, sym, ℕ, arith, length, length-replicate, length-take, rules}
use Rattle.model.specs.Layout.{weighted_sum, plain_sum, unit_weights}
use Rattle.descent_laws.proofs.Bounds.{pairs_at_most}
use Rattle.search_sums.proofs.Rows.{ones_taken}
use Rattle.search_sums.proofs.plain_total.Statement.{statement}
use Rattle.search_sums.proofs.plain_total.Tie as tie

slice_bounds-weights-end : tie.Need-slice_bounds-weights-end
slice_bounds-weights-end c =
    let at-start : tie.Start = search in
    let most = pairs_at_most at-start.args.n at-start.requires.0 in
    let e = c.pair_count-count.ensures in
    let len : length c.before.ones-weights.result ≡ 2016 = ap length c.before.ones-weights.ensures ∙ length-replicate {A = ℕ} 2016 1 in
    omega arith

slice_bounds-total-end : tie.Need-slice_bounds-total-end
slice_bounds-total-end c =
    let at-start : tie.Start = search in
    let most = pairs_at_most at-start.args.n at-start.requires.0 in
    let e = c.before.pair_count-count.ensures in
    let len : length c.before.before.ones-weights.result ≡ 2016 = ap length c.before.before.ones-weights.ensures ∙ length-replicate {A = ℕ} 2016 1 in
    simp length-take (omega arith)

total-requires : tie.Need-total-requires
total-requires c κs =
    let at-start : tie.Start = search in
    let most = pairs_at_most at-start.args.n at-start.requires.0 in
    let e = c.before.pair_count-count.ensures in
    let len : length c.before.before.ones-weights.result ≡ 2016 = ap length c.before.before.ones-weights.ensures ∙ length-replicate {A = ℕ} 2016 1 in
    record { few = at-start.requires.0; size = at-start.requires.1; one_per_pair = simp length-take (omega arith) }

returns : tie.Need-returns
unfolding plain_sum
returns c = λ j v e t.
    let at_ones : tie.After-ones-weights = search in
    let at-start : tie.Start = search in
    c.total.ensures j v e t
    ∙ ap (λ ws. weighted_sum j ws v)
    (ones_taken at-start.args.n c.before.before.pair_count-count.result at_ones.ones-weights.result at-start.requires.0 at_ones.ones-weights.ensures
    c.before.before.pair_count-count.ensures ∙ ap unit_weights (sym e))

pub plain_total_spec : {M : Type 1} → statement M
plain_total_spec =
    tie.close (tie.spec
    (search rules) (search rules) slice_bounds-weights-end slice_bounds-total-end total-requires returns)
