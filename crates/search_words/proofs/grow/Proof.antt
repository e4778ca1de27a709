-- `search_words::grow` meets its contract: what is moved up by as many units as are done is done again. Assumes nothing.
use Rattle.list_laws.proofs.Kit.{◌≡◌, refl, subst, ◌*◌, ◌-◌, ◌≤◌, ℕ, arith, length, mul-le-mul_right, rules}
use Rattle.search_words.specs.Words.{Repeated}
use Rattle.search_words.proofs.Growth.{repeated_one, repeated_more}
use Rattle.search_words.proofs.grow.Statement.{statement}
use Rattle.search_words.proofs.grow.Tie as tie

abbrev invariant-loop-done : tie.invariant-loop-done
invariant-loop-done words₀ count unit n done₀ words done = (1 ≤ done) × (done ≤ n) × (length words ≡ length words₀) × (Repeated count unit done words₀ words)

abbrev decreases-loop-done : tie.decreases-loop-done
decreases-loop-done words₀ count unit n done₀ words done = n - done

loop-done-init : tie.Need-loop-done-init invariant-loop-done decreases-loop-done
loop-done-init c =
    let at-start : tie.Start invariant-loop-done decreases-loop-done = search in
    let a = at-start.args in
    (omega arith, omega arith, refl, repeated_one a.count a.unit a.words.now)

overflow_mul-step : tie.Need-overflow_mul-step invariant-loop-done decreases-loop-done
overflow_mul-step c =
    let at-start : tie.Start invariant-loop-done decreases-loop-done = search in
    let at-step : tie.After-min-step invariant-loop-done decreases-loop-done = search in
    let e = at-step.min-step.ensures in
    let h : at-step.min-step.result * at-start.args.unit ≤ at-start.args.n * at-start.args.unit =
    mul-le-mul_right at-start.args.unit (omega arith) in
    omega arith

spread-requires : tie.Need-spread-requires invariant-loop-done decreases-loop-done
spread-requires c κs = omega arith

loop-done-preserved : tie.Need-loop-done-preserved invariant-loop-done decreases-loop-done
loop-done-preserved c =
    let at-start : tie.Start invariant-loop-done decreases-loop-done = search in
    let at-loop : tie.At-loop-done invariant-loop-done decreases-loop-done = search in
    let at-step : tie.After-min-step invariant-loop-done decreases-loop-done = search in
    let at-spread : tie.After-spread invariant-loop-done decreases-loop-done = search in
    let a = at-start.args in
    let o = at-loop.loop-done in
    let e = at-step.min-step.ensures in
    let g =
    repeated_more a.count a.unit a.words.now o.words _ o.done at-step.min-step.result (omega arith) o.invariant.3
    at-spread.spread.ensures in
    (omega arith, omega arith, g.same, g)

shape_of-words : tie.Need-shape_of-words invariant-loop-done decreases-loop-done
shape_of-words c =
    let at-loop : tie.At-loop-done invariant-loop-done decreases-loop-done = search in
    at-loop.loop-done.invariant.2

returns : tie.Need-returns invariant-loop-done decreases-loop-done
returns c =
    let at-start : tie.Start invariant-loop-done decreases-loop-done = search in
    let at-loop : tie.At-loop-done invariant-loop-done decreases-loop-done = search in
    let a = at-start.args in
    let o = at-loop.loop-done in
    subst (λ (k : ℕ). Repeated a.count a.unit k a.words.now o.words) (omega arith) o.invariant.3

pub grow_spec : {M : Type 1} → statement M
grow_spec =
    tie.close (tie.spec
    invariant-loop-done decreases-loop-done loop-done-init (omega arith) (search rules) overflow_mul-step spread-requires (search rules)
    (search rules) loop-done-preserved shape_of-words returns)
