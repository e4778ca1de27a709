-- `search_sums::cost_between` meets its contract: nothing at no penalty, else weight × penalty. Assumes nothing.
use Rattle.list_laws.proofs.Kit.{◌∙◌, ap, sym, ◌*◌, ℕ, arith, mul-zero, rules}
use Rattle.search_laws.proofs.Rows.{term_small}
use Rattle.search_laws.specs.PieceSum.{weight_between}
use Rattle.search_sums.proofs.cost_between.Statement.{statement}
use Rattle.search_sums.proofs.cost_between.Tie as tie

returns-then-penalty-eq0 : tie.Need-returns-then-penalty-eq0
returns-then-penalty-eq0 c =
    let at-start : tie.Start = search in
    let a = at-start.args in
    let w : ℕ = weight_between a.n a.weights.now a.i a.k in
    (sym (mul-zero w) ∙ ap (λ (p : ℕ). w * p) (sym c.if-penalty-eq0.true), omega arith)

overflow_mul-result : tie.Need-overflow_mul-result
overflow_mul-result c =
    let at-start : tie.Start = search in
    let m = term_small c.weight_between.result at-start.args.penalty (omega (arith, c.weight_between.ensures.1)) (omega arith) in
    omega arith

returns : tie.Need-returns
returns c =
    let at-start : tie.Start = search in
    let at-weight : tie.After-weight_between = search in
    let p : ℕ = at-start.args.penalty in
    let w = at-weight.weight_between in
    (ap (λ (x : ℕ). x * p) w.ensures.0, term_small w.result p (omega (arith, w.ensures.1)) (omega arith))

pub cost_between_spec : {M : Type 1} → statement M
cost_between_spec = tie.close (tie.spec
    returns-then-penalty-eq0 (search rules) overflow_mul-result returns)
