-- `search_peel::inner` meets its contract: four windows, one for each side. Assumes nothing.
use Rattle.list_laws.proofs.Kit.{arith, rules, ◌*◌, ◌≤◌}
use Rattle.search_peel.proofs.Windows.{inner_from, far_least}
use Rattle.search_peel.proofs.inner.Statement.{statement}
use Rattle.search_peel.proofs.inner.Tie as tie

-- a step along is no longer than one across
step : (c : tie.Start) → c.args.r ≤ c.args.r * c.args.w
step c = far_least c.args.r c.args.w (omega arith)

overflow_add-p : tie.Need-overflow_add-p
overflow_add-p c = let at-start : tie.Start = search in let h = step at-start in omega arith

bits_at-requires : tie.Need-bits_at-requires
bits_at-requires c κs = let at-start : tie.Start = search in let h = step at-start in omega arith

overflow_sub-p : tie.Need-overflow_sub-p
overflow_sub-p c = let at-start : tie.Start = search in let h = step at-start in omega arith

returns : tie.Need-returns
returns c =
    let at-start : tie.Start = search in
    let h = step at-start in
    let a = at-start.args in
    inner_from a.ws.now a.w a.p a.r a.v c.before.before.before.bits_at.result c.before.before.bits_at-2.result
    c.before.bits_at-3.result c.bits_at-4.result (omega arith) (omega arith) c.before.before.before.bits_at.ensures
    c.before.before.bits_at-2.ensures c.before.bits_at-3.ensures c.bits_at-4.ensures

pub inner_spec : {M : Type 1} → statement M
inner_spec =
    tie.close (tie.spec
    (search rules) overflow_add-p bits_at-requires overflow_sub-p (search rules) (search rules) (search rules) (search rules) (search rules) returns)
