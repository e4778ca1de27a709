-- `layout_places::numbers::pair_count` meets its contract: n pieces have n(n - 1)/2 pairs. Assumes nothing.
use Rattle.list_laws.proofs.Kit.{◌*◌, ◌-◌, ◌≤◌, mul-le-mul, mul-one, mul-sub, arith, rules}
use Rattle.model.specs.Layout.{pairs_from}
use Rattle.descent_laws.proofs.Bounds.{pairs_length}
use Rattle.layout_places.proofs.numbers.pair_count.Statement.{statement}
use Rattle.layout_places.proofs.numbers.pair_count.Tie as tie

returns-then-n-eq0 : tie.Need-returns-then-n-eq0
unfolding pairs_from
returns-then-n-eq0 c = rw c.if-n-eq0.true

overflow_mul-result : tie.Need-overflow_mul-result
overflow_mul-result c =
    let n = c.before.args.n in
    let few : n - 1 ≤ 64 = omega arith in
    let m : n * (n - 1) ≤ 64 * 64 = mul-le-mul c.before.requires few in
    omega arith

returns : tie.Need-returns
returns c = let n = c.before.args.n in omega (arith, pairs_length n, mul-sub n n 1, mul-one n)

pub pair_count_spec : {M : Type 1} → statement M
pair_count_spec = tie.close (tie.spec
    returns-then-n-eq0 (search rules) overflow_mul-result returns)
