-- `job_check::lent::pixel_start`: what `sum` answers. It fits, as each of at most 64 areas that the table gives is at most 65,025. Assumes nothing.
use Rattle.std.proofs.Common.{rules}
use borrow.Author.Tests.{tests}
use Rattle.std.proofs.lemmas.Iterator.{YieldsList-from_range, YieldsList-from_map}
use Rattle.std.proofs.lemmas.Iterator.Consumers.{sum_by_from_yields_List, fits_by_from_yields_list}
use Rattle.std.specs.List.{range_with_len}
use Rattle.list_laws.proofs.Kit.{◌∙◌, ℕ, min, arith}
use Rattle.list_laws.proofs.Ranges.{sum_in_range}
use Rattle.list_laws.proofs.Sums.{sum_bound_lem}
use Rattle.model.specs.Lent.{pixel_start, entry_area}
use Rattle.job_check.proofs.lent.pixel_start.Goals as goal

pub sum-requires-clause-fits : goal.sum-requires-clause-fits
sum-requires-clause-fits c =
    let i = c.args.i in
    let area : ℕ → ℕ = λ k. min (entry_area c.args.table.now k) 65025 in
    fits_by_from_yields_list area (range_with_len 0 i) _ _
    (YieldsList-from_map _ area (YieldsList-from_range 0 i i (cc) (omega arith)) c.map.ensures.closure (λ x r q k. search (rules, tests)))
    (omega (arith, sum_in_range area i, sum_bound_lem i 65025 area (λ k l. omega arith)))

pub returns : goal.returns
unfolding pixel_start
returns c =
    let i = c.args.i in
    let area = entry_area c.args.table.now in
    sum_by_from_yields_List area (range_with_len 0 i) _ _ c.sum.ensures.ran
    (YieldsList-from_map _ area (YieldsList-from_range 0 i i (cc) (omega arith)) c.map.ensures.closure (λ x r q k. search (rules, tests)))
    ∙ sum_in_range area i
