-- `search_sums::weight_between` meets its contract, by which number is the lower. Assumes nothing.
use Rattle.list_laws.proofs.Kit.{sym, arith, rules}
use Rattle.search_laws.proofs.Pairs.{pair_below}
use Rattle.search_laws.proofs.PieceSum.{weight_self, weight_above, weight_below}
use Rattle.search_sums.proofs.weight_between.Statement.{statement}
use Rattle.search_sums.proofs.weight_between.Tie as tie

returns-then-i-k : tie.Need-returns-then-i-k
returns-then-i-k c =
    (rw c.if-i-k.true (sym (weight_self c.before.before.args.n c.before.before.args.weights.now c.before.before.args.k)), omega arith)

offset_bounds-weights-pair_index : tie.Need-offset_bounds-weights-pair_index
offset_bounds-weights-pair_index c =
    let at-start : tie.Start = search in
    let a = at-start.args in
    let p = at-start.requires.0 in
    let q = at-start.requires.1 in
    let e = c.pair_index.ensures in
    let b = pair_below a.n a.i a.k (omega arith) (omega arith) in
    omega arith

bounds-weights-pair_index : tie.Need-bounds-weights-pair_index
bounds-weights-pair_index c =
    let at-start : tie.Start = search in
    let a = at-start.args in
    let p = at-start.requires.0 in
    let q = at-start.requires.1 in
    let e = c.before.pair_index.ensures in
    let b = pair_below a.n a.i a.k (omega arith) (omega arith) in
    omega arith

overflow_cast-result : tie.Need-overflow_cast-result
overflow_cast-result c = omega (arith, c.shared_slice_known-then-i-k-2-1.given c.before.pair_index.result)

returns-then-i-k-2 : tie.Need-returns-then-i-k-2
returns-then-i-k-2 c =
    let at-start : tie.Start = search in
    let a = at-start.args in (
      rw c.before.pair_index.ensures (sym (weight_above a.n a.weights.now a.i a.k c.before.before.if-i-k-2.true)),
      omega (arith, c.shared_slice_known-then-i-k-2-1.given c.before.pair_index.result),
    )

offset_bounds-weights-pair_index-2 : tie.Need-offset_bounds-weights-pair_index-2
offset_bounds-weights-pair_index-2 c =
    let at-start : tie.Start = search in
    let a = at-start.args in
    let p = at-start.requires.0 in
    let q = at-start.requires.1 in
    let e = c.pair_index-2.ensures in
    let b = pair_below a.n a.k a.i (omega arith) (omega arith) in
    omega arith

bounds-weights-pair_index-2 : tie.Need-bounds-weights-pair_index-2
bounds-weights-pair_index-2 c =
    let at-start : tie.Start = search in
    let a = at-start.args in
    let p = at-start.requires.0 in
    let q = at-start.requires.1 in
    let e = c.before.pair_index-2.ensures in
    let b = pair_below a.n a.k a.i (omega arith) (omega arith) in
    omega arith

overflow_cast-result-2 : tie.Need-overflow_cast-result-2
overflow_cast-result-2 c = omega (arith, c.shared_slice_known-2-1.given c.before.pair_index-2.result)

returns : tie.Need-returns
returns c =
    let at-start : tie.Start = search in
    let a = at-start.args in (
      rw c.before.pair_index-2.ensures (sym (weight_below a.n a.weights.now a.i a.k (omega arith))),
      omega (arith, c.shared_slice_known-2-1.given c.before.pair_index-2.result),
    )

pub weight_between_spec : {M : Type 1} → statement M
weight_between_spec =
    tie.close (tie.spec
    returns-then-i-k (search rules) offset_bounds-weights-pair_index bounds-weights-pair_index overflow_cast-result returns-then-i-k-2 (search rules)
    offset_bounds-weights-pair_index-2 bounds-weights-pair_index-2 overflow_cast-result-2 returns)
