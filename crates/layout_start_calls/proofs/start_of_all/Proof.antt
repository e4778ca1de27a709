-- `layout_start_calls::start_of_all` meets its contract: the pieces in falling order are stacked (`all_laid`). Assumes nothing.
use Rattle.list_laws.proofs.Kit.{[], ◌≤◌, arith, length, rules}
use Rattle.model.specs.Lent.{lent_by, job_of}
use Rattle.layout_start_calls.proofs.Insertion.{order_below}
use Rattle.layout_start_calls.proofs.Stacks.{all_laid}
use Rattle.layout_start_calls.proofs.start_of_all.Statement.{statement}
use Rattle.layout_start_calls.proofs.start_of_all.Tie as tie

falling_order-order-requires : tie.Need-falling_order-order-requires
falling_order-order-requires c κs =
    let at-start : tie.Start = search in
    let f = at-start.requires.0 in
    (f.few_pieces, f.entries)

stack_all-requires : tie.Need-stack_all-requires
stack_all-requires c κs =
    let at-start : tie.Start = search in
    let at-order : tie.After-falling_order-order = search in
    let a = at-start.args in
    let f = at-start.requires.0 in
    let order = at-order.falling_order-order in
    let n : a.size.count ≤ length order.result = let e = order.ensures.0 in let k = f.few_pieces in omega arith in
    let below = order_below (job_of (lent_by a.size a.table.now [])) order.result a.size.count n (order.ensures.1 []) in
    (f, below, f.few_pieces, order.ensures.0, at-start.requires.1)

returns : tie.Need-returns
unfolding job_of
returns c = λ pixels.
    let at-start : tie.Start = search in
    let at-order : tie.After-falling_order-order = search in
    let at-stacked : tie.After-stack_all = search in
    let a = at-start.args in
    all_laid (job_of (lent_by a.size a.table.now pixels)) _ a.layout.now _ at-start.requires.1 (at-order.falling_order-order.ensures.1 pixels)
    (at-stacked.stack_all.ensures pixels)

pub start_of_all_spec : {M : Type 1} → statement M
start_of_all_spec = tie.close (tie.spec
    falling_order-order-requires stack_all-requires (search rules) returns)
